-- What stays of a library's tables at every call. Assumes nothing.
use Rattle.std.specs.Prelude.{◌≡◌, length}
use Rattle.library.specs.declared.Library.{Library}

-- the same tables lent, as long as they were, whatever they hold now
pub record SameTables {M : Type 0} (before after : Library M) : Type 0 where
  pub shelf : after.shelf.ghost_name ≡ before.shelf.ghost_name
  pub index : after.index.ghost_name ≡ before.index.ghost_name
  pub cards : after.cards.ghost_name ≡ before.cards.ghost_name
  pub shelf_length : length after.shelf.now ≡ length before.shelf.now
  pub index_length : length after.index.now ≡ length before.index.now
  pub cards_length : length after.cards.now ≡ length before.cards.now
