-- One list more of a card. Assumes nothing.
use Rattle.std.proofs.Common.{◌≡◌, ℕ, suc, ◌+◌, ◌-◌, ◌<◌, List, ◌++◌, Option, sym, ap, ◌∙◌, append_assoc, arith}
use Rattle.costs.specs.declared.entry.Entry.{Entry}
use Rattle.listing.specs.Cards.{list_lines, card_lines}

-- a part more of a text whose rest is known
pub push_part : (text next part rest whole all : List ℕ) → next ≡ text ++ part → whole ≡ part ++ rest → text ++ whole ≡ all → next ++ rest ≡ all
push_part text next part rest whole all is w so_far =
    ap (λ l. l ++ rest) is ∙ append_assoc text part rest ∙ ap (λ l. text ++ l) (sym w) ∙ so_far

-- the list of event e, where there are more
pub card_more : {M : Type 0} (spelt : M → List ℕ) (word : List ℕ) (block : Option ℕ) (outputs : ℕ) (lists : ℕ → List (Entry M)) (e n : ℕ) → e < n
    → card_lines spelt word block outputs lists e (n - e) ≡ list_lines spelt word block e outputs 0 (lists e) ++ card_lines spelt word block outputs lists (e + 1) (n - (e + 1))
card_more spelt word block outputs lists e n lt = let left : n - e ≡ suc (n - (e + 1)) = omega arith in ap (card_lines spelt word block outputs lists e) left
