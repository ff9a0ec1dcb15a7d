-- The first field with a number that names nothing.
use Rattle.std.proofs.Common.{refl}
use Rattle.library.proofs.Passing.{passed_is}
use Rattle.library.proofs.place.check_chart.Goals as goal

pub returns-in_err-names : goal.returns-in_err-names
returns-in_err-names c = rw (passed_is c.from_residual.result _ c.from_residual.ensures) (record { sheet = c.args.sheet.now; bytes = refl; width = refl; refusal = c.in_err-names.field-0.0; is = c.in_err-names.ensures; as_told = refl })
