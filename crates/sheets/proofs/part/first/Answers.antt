use Rattle.std.proofs.Common.{◌≡◌, ◌+◌, ◌*◌, get_or, None, sym, rules}
use Rattle.std.proofs.lemmas.List.{take_rest}
use Rattle.sheets.specs.Frames.{field_at}
use Rattle.sheets.proofs.Walk.{first_turn, fields_end}
use Rattle.sheets.proofs.part.first.Goals as goal

pub returns-in_default-clause-turn : goal.returns-in_default-clause-turn
returns-in_default-clause-turn c = let none : None ≡ field_at c.args.bytes.now = search rules in fields_end _ (sym none)

pub returns-in_err-content-clause-turn : goal.returns-in_err-content-clause-turn
returns-in_err-content-clause-turn c =
    let none : None ≡ field_at c.args.bytes.now = search rules in
    simp (c.from_residual.ensures) (fields_end _ (sym none))

pub returns-clause-turn : goal.returns-clause-turn
returns-clause-turn c =
    let bs = c.args.bytes.now in
    let len : c.from.result ≡ get_or bs 1 0 * 256 + get_or bs 2 0 = search rules in
    let parts = c.in_ok-content.ensures.cases in
    first_turn bs c.from.result _ _ c.in-len3-up.len_at_least len (simp take_rest at parts.0) (simp take_rest at parts.1) (simp take_rest at parts.2)
