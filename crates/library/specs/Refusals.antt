-- Refusals by number, level and place. Assumes nothing.
use Rattle.std.specs.Prelude.{ℕ}
use Rattle.charts.specs.Refusals.{number as chart_number, level as chart_level, place as chart_place}
use Rattle.networks.specs.Refusals.{number as network_number, level as network_level, place as network_place}
use Rattle.sheets.specs.Refusals.{number as sheet_number, level as sheet_level, place as sheet_place}
use Rattle.charts.specs.declared.refusal.Refusal.{Refusal as ChartRefusal}
use Rattle.networks.specs.declared.refusal.Refusal.{Refusal as NetworkRefusal}
use Rattle.sheets.specs.declared.refusal.Refusal.{Refusal as SheetRefusal}
use Rattle.library.specs.declared.refusal.Table.{Table}
use Rattle.library.specs.declared.refusal.Table.TheVariants.{Shelf, Index, Cards, Rows, Out}
use Rattle.library.specs.declared.refusal.Refusal.{Refusal}
use Rattle.library.specs.declared.refusal.Refusal.TheVariants.{Sheet, Width, NoBlock, OutOfDate, Chart, Network, NoNumber, NoRoom}

-- a refusal as it is told: by number, level (1 sheet, 2 chart, 3 network, 4 library) and place
pub record Told : Type 0 where
  pub number : ℕ
  pub level : ℕ
  pub place : ℕ

-- of the library: level 4
abbrev pub by_library : ℕ → ℕ → Told
by_library n p = record { number = n; level = 4; place = p }

-- what the layers below turn down keeps its number, level and place
abbrev pub by_sheet : SheetRefusal → Told
by_sheet e = record { number = sheet_number e; level = sheet_level e; place = sheet_place e }

abbrev pub by_chart : ChartRefusal → Told
by_chart e = record { number = chart_number e; level = chart_level e; place = chart_place e }

abbrev pub by_network : NetworkRefusal → Told
by_network e = record { number = network_number e; level = network_level e; place = network_place e }

-- which table there is no room in, as a place
abbrev pub table_number : Table → ℕ
table_number Shelf = 1
table_number Index = 2
table_number Cards = 3
table_number Rows = 4
table_number Out = 5

-- 2: of another width, place the width given in bytes; 3: no such block, 4: out of date, place the instance or the number asked for;
-- 5: no such algorithm or event, place its number; 7: no room, place the table
abbrev pub told : Refusal → Told
told (Sheet e) = by_sheet e
told (Width given) = by_library 2 given
told (NoBlock place) = by_library 3 place
told (OutOfDate place) = by_library 4 place
told (Chart e) = by_chart e
told (Network e) = by_network e
told (NoNumber k) = by_library 5 k
told (NoRoom table) = by_library 7 (table_number table)
