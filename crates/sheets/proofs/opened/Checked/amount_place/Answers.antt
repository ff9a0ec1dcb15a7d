use Rattle.std.proofs.Common.{◌*◌, ◌<◌, ◌≤◌, length, mul-le-mul, arith, rules}
use Rattle.sheets.specs.Sheets.{sheet_of}
use Rattle.sheets.proofs.Forms.{form_of}
use Rattle.sheets.proofs.Retiming.{amount_at}
use Rattle.sheets.proofs.opened.Checked.amount_place.Goals as goal

-- 16 amounts of 8 bytes at most
few : (c : goal.After-way_told-1) → c.args.k * c.args.self.now.width.bytes ≤ 128
few c =
    let s = c.args.self.now in
    let low : c.args.k ≤ 16 = omega (arith, c.if-k-amounts.false, c.amounts.ensures, (form_of s.width.bytes s.bytes.now s.right).few_amounts) in
    mul-le-mul low s.width.few

pub overflow_mul-result : goal.overflow_mul-result
overflow_mul-result c = let small = few c in search rules

pub overflow_add-result : goal.overflow_add-result
overflow_add-result c = let small = few c in search rules

pub returns : goal.returns
returns c =
    let s = c.args.self.now in
    let lt : c.args.k < length (sheet_of s.width.bytes s.bytes.now).amounts = omega (arith, c.if-k-amounts.false, c.amounts.ensures) in
    amount_at s.width.bytes s.bytes.now s.framed s.right c.args.k lt
