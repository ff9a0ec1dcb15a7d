-- The laws that crates above import: entries, runs, lists, lent rows and reducers, by their promises alone. Assumes nothing.
pub use Rattle.costs.specs.EntryLaws.{entry_lawful, covers_parts, covers_plus, zero_plus}
pub use Rattle.costs.specs.Members.{among_all, all_among, among_left, among_right, among_append, among_map, among_unmapped, among_joined, among_unjoined, among_sums, among_unsummed, length_sums, some_among, one_among}
pub use Rattle.costs.specs.RunLaws.{count_plus, count_alone, count_one, covers_run_as, covers_run_zero, covers_run_on, covers_run_both, is_run_as, is_run_own, is_run_alone, is_run_once, is_run_both, is_run_covered}
pub use Rattle.costs.specs.ListLaws.{computes_by, computes_functional, merged_covers, merged_least, covered_some, covered_zero, covered_itself, covered_on, covered_sums, covered_meant, covered_reduced, covered_run, merge_sound}
pub use Rattle.costs.specs.KeepLaws.{keep_sound, keep_selects, keep_unbeaten, keep_whole}
pub use Rattle.costs.proofs.Segments.{length_part, length_list_at, same_part, same_at, set_alone}
