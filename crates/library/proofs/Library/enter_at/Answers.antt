-- The card that was worked, and where it was kept.
use Rattle.std.proofs.Common.{◌≡◌, ℕ, List, ap, ◌∙◌}
use Rattle.std.proofs.lemmas.Bool.{true≢false}
use Rattle.costs.specs.declared.entry.Entry.{Entry}
use Rattle.networks.specs.Networks.{network_of, Fit}
use Rattle.networks.specs.Rows.{list_at}
use Rattle.sheets.specs.Sheets.{sheet_of}
use Rattle.charts.specs.Naming.{says}
use Rattle.library.specs.Books.{rules}
use Rattle.library.specs.Checks.{CardOver}
use Rattle.library.specs.Placing.{faces_kept, cards_kept}
use Rattle.library.specs.declared.row.Row.{Row}
use Rattle.library.proofs.Entered.{kept_from}
use Rattle.library.proofs.Passing.{over}
use Rattle.library.proofs.Library.enter_at.Goals as goal

pub returns : goal.returns
returns g c =
    let sheet = c.args.sheet.now in
    let s = says sheet in
    let R = rules g.M.Measure.ops g.M.Measure.wide g.M.Measure.meant g.R.Reducer.gives in
    let is : s ≡ sheet_of R.wide c.args.bytes.now = ap (λ w. sheet_of w sheet.bytes.now) c.requires.width ∙ ap (sheet_of R.wide) c.requires.bytes in
    let e = c.in_ok-lens.ensures in
    let lens = c.in_ok-lens.lens in
    let k = c.kept.ensures in
    let Worked : List ℕ → List Row → List (Entry g.row.M.Denot) → Type 0 =
    λ _ i d. Fit (network_of s (faces_kept i s.instances)) (cards_kept i d s.instances) → CardOver R (faces_kept i s.instances) (cards_kept i d s.instances) s (list_at c.work.new.card lens) in
    record {
      tables = c.store.ensures.tables;
      same = λ z. absurd (true≢false z);
      kept = kept_from R s c.args.bytes.now is c.args.n c.args.at c.args.self.now.shelf.now c.args.self.now.index.now c.args.self.now.cards.now _ _ _ c.work.new.card lens c.interface-face.result
          e.rows (over Worked k.shelf k.index k.cards e.answer) c.interface-face.ensures c.store.ensures.shelf c.store.ensures.index c.store.ensures.cards;
    }
