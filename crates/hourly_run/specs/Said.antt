-- What is said on standard error, a line.
use Rattle.std.specs.Prelude.{ℕ, List, [], ◌++◌, codes, decimal, Some, None, Ok, Err}
use Rattle.hourly_run.specs.Entries.{Entry}
use Rattle.hourly_run.specs.Pages.{Shelved}
use Rattle.hourly_run.specs.Shown.{shown}

-- of the file of samples
abbrev pub file_said : List ℕ → List ℕ → List ℕ
file_said file what = codes "hourly: " ++ shown file ++ codes ": " ++ what ++ codes "\n"

-- of a counter that is asked for
abbrev pub counter_said : List ℕ → List ℕ → List ℕ
counter_said counter what = codes "hourly: counter " ++ counter ++ codes ": " ++ what ++ codes "\n"

-- the name of the page's file, where pages stand in files
abbrev pub page_named : Shelved → List ℕ → List ℕ
page_named None behind = []
page_named (Some holds) name = codes ", page " ++ shown name

-- the hour of a line that has one
abbrev pub hour_named : Shelved → Entry → List ℕ
hour_named shelf (Err why) = []
hour_named shelf (Ok entry) = codes ", hour " ++ decimal entry.0 ++ page_named shelf entry.1

-- of a line: its number, its hour, the name of its page's file, and what is wrong [hourly-said]
abbrev pub line_said : Shelved → ℕ → Entry → List ℕ → List ℕ
line_said shelf number entry why = codes "line " ++ decimal number ++ hour_named shelf entry ++ codes ": " ++ why
