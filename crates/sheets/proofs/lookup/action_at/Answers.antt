use Rattle.std.proofs.Common.{rules}
use Rattle.std.proofs.iter.runs.Made.{chains}
use Rattle.sheets.proofs.Pieces.{Paired, nth_action}
use Rattle.sheets.proofs.lookup.action_at.Goals as goal

pub returns-in_err-action : goal.returns-in_err-action
returns-in_err-action c =
    let found : Paired c.args.j c.args.content.now c.nth.result = search (rules, chains) in
    let is = nth_action c.args.j c.args.content.now c.nth.result found in
    search rules

pub returns : goal.returns
returns c =
    let found : Paired c.args.j c.args.content.now c.nth.result = search (rules, chains) in
    let is = nth_action c.args.j c.args.content.now c.nth.result found in
    search rules
