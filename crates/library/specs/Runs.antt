-- What an event of a block starts, by the book's sheets: runs of all three kinds of block, finite, with unlimited counts. Assumes nothing.
use Rattle.std.specs.Prelude.{◌≡◌, ℕ, List, [], ◌∷◌, ◌++◌}
use Rattle.charts.specs.Runs.{Run as ChartRun}
use Rattle.costs.specs.Amounts.{Amounts}
use Rattle.costs.specs.Runs.{Sent, none_sent, once_sent, both_sent}
use Rattle.networks.specs.Networks.{targets, outputs}
use Rattle.networks.specs.Runs.{arrivals}
use Rattle.sheets.specs.declared.words.End.{End}
use Rattle.sheets.specs.declared.words.End.TheVariants.{Outside, Inside}
use Rattle.sheets.specs.declared.words.Kind.TheVariants.{Composite}
use Rattle.library.specs.Books.{Book, at, instance_of}

mutual
  -- a run of block n on its event e, of that amount, that sends each output so often
  pub data Run {M : Type 0} (ops : Amounts M) (meant : List ℕ → M) (b : Book M) : ℕ → ℕ → M → Sent → Type 0 where
    -- a basic or a service block runs by its sheet alone; a composite has no such run
    alone : (n e : ℕ) (a : M) (ns : Sent) → ChartRun ops meant (at b n).sheet e a ns → Run ops meant b n e a ns
    -- a composite follows every connection from the event
    inside : (n e : ℕ) (a : M) (ns : Sent) → (at b n).sheet.face.kind ≡ Composite → Serves ops meant b n (targets (at b n).sheet.connections (Outside e)) a ns → Run ops meant b n e a ns

  -- these arrivals in composite n are served, at that amount, with so many arrivals at each output outside
  pub data Serves {M : Type 0} (ops : Amounts M) (meant : List ℕ → M) (b : Book M) : ℕ → List End → M → Sent → Type 0 where
    -- no arrival is left
    nothing_left : (n : ℕ) → Serves ops meant b n [] ops.zero none_sent
    -- an arrival outside is counted
    arrives_outside : (n p : ℕ) (rest : List End) (a : M) (ns : Sent) → Serves ops meant b n rest a ns → Serves ops meant b n (Outside p ∷ rest) a (both_sent (once_sent p) ns)
    -- one at an instance starts one run of its block, and each event that this sends goes on likewise
    arrives_inside : (n i f : ℕ) (rest : List End) (a : M) (ns : Sent) (c : M) (ms : Sent) → Run ops meant b (instance_of (at b n).sheet i) f a ns
        → Serves ops meant b n (arrivals (at b n).sheet.connections i ns outputs ++ rest) c ms → Serves ops meant b n (Inside i f ∷ rest) (ops.plus a c) ms
