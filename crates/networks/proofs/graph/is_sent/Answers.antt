-- The answers to the needs of `is_sent`. Assumes nothing.
use Rattle.std.proofs.Common.{◌≤◌, sym, ap, ◌∙◌, subst}
use Rattle.costs.specs.Entries.{count}
use Rattle.costs.specs.declared.entry.Entry.{Entry}
use Rattle.order.specs.Order.{Any}
use Rattle.sheets.specs.declared.words.End.TheVariants.{Inside}
use Rattle.networks.proofs.Ways.{inside_port}
use Rattle.networks.proofs.graph.is_sent.Goals as goal

pub returns-then-instance-i : goal.returns-then-instance-i
returns-then-instance-i g c =
    let o = c.in-Inside.port in
    let h₀ = c.is_counted.ensures in (
      λ r. record { output = o; is = c.in-Inside.is ∙ ap (λ a. Inside a o) c.if-instance-i.true; counted = h₀.0 r },
      λ h. h₀.1 (subst (λ q. Any (λ (e : Entry g.row.M.Denot). c.args.least ≤ count e q) c.args.entries.now) (inside_port (sym h.is ∙ c.in-Inside.is)) h.counted),
    )
