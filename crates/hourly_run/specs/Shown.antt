-- How a name is said on standard error.
use Rattle.std.specs.Prelude.{ℕ, List, [], ◌++◌, take, length, ltb, if◌then◌else◌, codes, flat_map}
use Rattle.std.specs.Char.Escape.{escape_ascii}

-- a byte that prints stands as it is, any other by its escape; of a name of more than 255 bytes the first 255, and two dots [hourly-shown]
unfoldable pub shown : List ℕ → List ℕ
shown name = flat_map escape_ascii (take 255 name) ++ (if ltb 255 (length name) then codes ".." else [])
