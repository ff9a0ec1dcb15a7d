-- One row more stays, or does not.
use Rattle.std.proofs.Common.{not, sym, ap, ◌∙◌, arith}
use Rattle.std.proofs.lemmas.List.Filters.{FiltersInPlace-more_no, FiltersInPlace-more_set}
use Rattle.costs.proofs.keep.retain.Goals as goal
use Rattle.costs.proofs.keep.retain.Goals.{then-not-beats, else-not-beats}

pub loop-i-preserved : goal.loop-i-preserved
loop-i-preserved g c =
    elim c.if-not-beats.branch [
      | then-not-beats w ↦ rw (w.rows-is, w.k-is) (FiltersInPlace-more_set c.loop-i.invariant (omega arith) (ap not (sym c.beats.ensures ∙ w.if-not-beats.true)) c.index-rows-i.is)
      | else-not-beats w ↦ rw (w.rows-is, w.k-is) (FiltersInPlace-more_no c.loop-i.invariant (omega arith) (ap not (sym c.beats.ensures ∙ w.if-not-beats.false)) c.index-rows-i.is)
    ]
