-- The laws, gathered.
use Rattle.costs.specs.Entries.{entry_ops}
use Rattle.costs.specs.Reducers.{kept, merged_alone}
use Rattle.costs.specs.EntryLaws.{entry_lawful}
use Rattle.costs.specs.KeepLaws.{keep_sound, keep_selects, keep_unbeaten, keep_whole}
use Rattle.costs.specs.ListLaws.{computes_by, computes_functional, merged_covers, merged_least, merge_sound}
use Rattle.costs.specs.RunLaws.{run_laws}
use Rattle.costs.proofs.laws.laws_hold.Goals as goal

pub returns : goal.returns
returns g c =
    let laws = g.met.M.Measure.lawful in
    let ops = g.M.Measure.ops in
    record {
      entries = entry_lawful laws;
      runs = run_laws laws;
      reducers = record {
        merged_covers = merged_covers (entry_lawful laws);
        merged_least = merged_least (entry_lawful laws);
        keep_sound = keep_sound laws;
        merge_sound = merge_sound laws;
        keep_functional = computes_functional _ _ (computes_by (kept (entry_ops ops)));
        merge_functional = computes_functional _ _ (computes_by (merged_alone (entry_ops ops)));
        keep_selects = keep_selects (entry_ops ops);
        keep_unbeaten = keep_unbeaten (entry_lawful laws);
        keep_whole = keep_whole (entry_lawful laws);
      };
    }
