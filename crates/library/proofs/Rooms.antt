-- Which table is the first that is too short. Assumes nothing.
use Rattle.std.proofs.Common.{ℕ, ◌+◌, ◌*◌, ◌<◌, ◌≤◌, ⊎_elim, arith}
use Rattle.std.proofs.lemmas.Bool.{cases_lt}
use Rattle.library.specs.Checks.{Sizes, Lent, First, Never}
use Rattle.library.specs.Steps.{EnterLacks, PreviewLacks}

module _ (sizes : Sizes) (lent : Lent) (bytes count more : ℕ) where
  -- no table before the m-th is too short
  before : (m : ℕ) → (1 < m → bytes + more ≤ sizes.shelf) → (2 < m → (count < sizes.index) × (count < 64)) → (3 < m → 128 * count + 128 ≤ sizes.cards) → (4 < m → 3072 ≤ lent.rows)
      → (j : ℕ) → j < m → EnterLacks sizes lent bytes count more j → ⊥
  before m s i c r j lt (EnterLacks.shelf h) = omega (arith, s lt, h)
  before m s i c r j lt (EnterLacks.index h) = omega (arith, (i lt).0, h)
  before m s i c r j lt (EnterLacks.blocks h) = omega (arith, (i lt).1, h)
  before m s i c r j lt (EnterLacks.cards h) = omega (arith, c lt, h)
  before m s i c r j lt (EnterLacks.rows h) = omega (arith, r lt, h)

  pub lacks_shelf : sizes.shelf < bytes + more → First (EnterLacks sizes lent bytes count more) 1
  lacks_shelf h = record { holds = EnterLacks.shelf h; before = before 1 (λ z. absurd (omega arith)) (λ z. absurd (omega arith)) (λ z. absurd (omega arith)) (λ z. absurd (omega arith)) }

  module _ (shelf : bytes + more ≤ sizes.shelf) where
    pub lacks_index : sizes.index ≤ count → First (EnterLacks sizes lent bytes count more) 2
    lacks_index h = record { holds = EnterLacks.index h; before = before 2 (λ _. shelf) (λ z. absurd (omega arith)) (λ z. absurd (omega arith)) (λ z. absurd (omega arith)) }

    pub lacks_blocks : 64 ≤ count → First (EnterLacks sizes lent bytes count more) 2
    lacks_blocks h = record { holds = EnterLacks.blocks h; before = before 2 (λ _. shelf) (λ z. absurd (omega arith)) (λ z. absurd (omega arith)) (λ z. absurd (omega arith)) }

    module _ (index : count < sizes.index) (few : count < 64) where
      pub lacks_cards : sizes.cards < 128 * count + 128 → First (EnterLacks sizes lent bytes count more) 3
      lacks_cards h = record { holds = EnterLacks.cards h; before = before 3 (λ _. shelf) (λ _. (index, few)) (λ z. absurd (omega arith)) (λ z. absurd (omega arith)) }

      module _ (cards : 128 * count + 128 ≤ sizes.cards) where
        pub lacks_rows : lent.rows < 3072 → First (EnterLacks sizes lent bytes count more) 4
        lacks_rows h = record { holds = EnterLacks.rows h; before = before 4 (λ _. shelf) (λ _. (index, few)) (λ _. cards) (λ z. absurd (omega arith)) }

  -- where none is, there is room in each
  module _ (none : Never (EnterLacks sizes lent bytes count more)) where
    pub room_shelf : bytes + more ≤ sizes.shelf
    room_shelf = ⊎_elim (λ low. absurd (none 1 (EnterLacks.shelf low))) (λ h. h) (cases_lt sizes.shelf (bytes + more))

    pub room_index : count < sizes.index
    room_index = ⊎_elim (λ l. l) (λ high. absurd (none 2 (EnterLacks.index high))) (cases_lt count sizes.index)

    pub room_cards : 128 * count + 128 ≤ sizes.cards
    room_cards = ⊎_elim (λ low. absurd (none 3 (EnterLacks.cards low))) (λ h. h) (cases_lt sizes.cards (128 * count + 128))

    pub room_rows : 3072 ≤ lent.rows
    room_rows = ⊎_elim (λ low. absurd (none 4 (EnterLacks.rows low))) (λ h. h) (cases_lt lent.rows 3072)

-- for a preview
module _ (lent : Lent) where
  pub previews_rows : lent.rows < 3072 → First (PreviewLacks lent) 4
  previews_rows h = record { holds = PreviewLacks.rows h; before = none }
    where
      none : (j : ℕ) → j < 4 → PreviewLacks lent j → ⊥
      none j lt (PreviewLacks.rows k) = omega arith
      none j lt (PreviewLacks.out k) = omega arith

  module _ (rows : 3072 ≤ lent.rows) where
    pub previews_out : lent.out < 128 → First (PreviewLacks lent) 5
    previews_out h = record { holds = PreviewLacks.out h; before = none }
      where
        none : (j : ℕ) → j < 5 → PreviewLacks lent j → ⊥
        none j lt (PreviewLacks.rows k) = omega arith
        none j lt (PreviewLacks.out k) = omega arith

    pub previews_none : 128 ≤ lent.out → Never (PreviewLacks lent)
    previews_none h j (PreviewLacks.rows k) = omega arith
    previews_none h j (PreviewLacks.out k) = omega arith
