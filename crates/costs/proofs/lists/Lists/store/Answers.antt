-- List k is written, and the others stay. Assumes nothing.
use Rattle.std.proofs.Common.{◌≡◌, ◌+◌, ◌-◌, ◌*◌, length, get_or, take, drop, set, sym, ap, ◌∙◌, ⊎_elim, arith}
use borrow.Rule.Slice.PartMut.{put_mid}
use Rattle.std.proofs.lemmas.List.{get_or-set_same, get_or-set_other, length-set}
use Rattle.std.proofs.lemmas.Bool.{cases_eq}
use Rattle.costs.proofs.Segments.{written, kept, length_put, put_rest}
use Rattle.costs.proofs.lists.Lists.store.Goals as goal

pub returns-clause-stored : goal.returns-clause-stored
returns-clause-stored g c =
    let s = c.args.k in
    let len = length c.args.list.now in
    let a = 16 * s in
    let xs = c.args.self.now.rows.now in
    let lens = c.args.self.now.lens in
    let lent = c.args.self.now.lent in
    let ys = c.copy_from_slice.new.self in
    let same : (a + len) - a ≡ len = omega arith in
    let long : length ys ≡ (a + len) - a = ap length c.copy_from_slice.ensures.after ∙ sym same in
    let after = put_mid a ((a + len) - a) xs ys in
    let there = get_or-set_same lens s len 0 (omega arith) in
    record {
      lent = record {
        room = omega (arith, lent.room, length-set lens s len, length_put xs ys a ((a + len) - a) (omega arith) long);
        short = λ t. ⊎_elim (λ e. omega (arith, ap (λ i. get_or (set lens s len) i 0) e, there)) (λ apart. omega (arith, get_or-set_other lens s t len 0 apart, lent.short t)) (cases_eq t s);
      };
      result = ap (λ l. take l (drop a after)) there ∙ written xs ys a _ len (omega arith) (long ∙ same) ∙ c.copy_from_slice.ensures.after;
      worked = omega (arith, there);
      others = λ t apart. ap (λ l. take l (drop (16 * t) after)) (get_or-set_other lens s t len 0 apart) ∙ kept xs ys s t _ _ (omega arith) (omega arith) (lent.short t) long apart;
      lengths = λ t apart. get_or-set_other lens s t len 0 apart;
      rest = λ q d apart. put_rest xs ys a ((a + len) - a) q d (omega arith) long (λ from to. apart from (omega (arith, there)));
    }
