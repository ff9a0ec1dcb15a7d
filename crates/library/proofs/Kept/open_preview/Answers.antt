-- What stops a preview first.
use Rattle.std.proofs.Common.{refl, sym, ap, ap₂}
use Rattle.library.specs.Steps.{preview}
use Rattle.library.proofs.Applying.{goes_as, stops_read}
use Rattle.library.proofs.Passing.{passed_is}
use Rattle.library.proofs.Kept.open_preview.Goals as goal

pub returns-in_err-checked : goal.returns-in_err-checked
returns-in_err-checked g c = rw (passed_is c.from_residual.result _ c.from_residual.ensures) (record {
  same = λ _. refl;
  book = stops_read _ g.met.M.Measure.lawful g.met.R.Reducer.sound c.args.width.bytes c.args.sheet.now _ _ _ _ c.in_err-checked.field-0.0 (sym c.in_err-checked.ensures.value);
})

pub returns : goal.returns
returns g c = record {
  same = c.preview.ensures.same;
  book = goes_as (ap₂ preview (sym (ap (λ w. w.bytes) c.in_ok-checked.ensures.width)) (sym c.in_ok-checked.ensures.bytes)) refl refl c.preview.ensures.book;
}
