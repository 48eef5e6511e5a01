-- What is wrong with a file, a line or its page, in words.
use Rattle.std.specs.Prelude.{ℕ, List, ◌++◌, codes}
use Rattle.hourly_run.specs.Shown.{shown}

-- a line that has no hour and no page [hourly-line]
abbrev pub no_lf : List ℕ
no_lf = codes "it does not end in LF"

abbrev pub no_blank : List ℕ
no_blank = codes "it has no blank"

abbrev pub no_hour : List ℕ
no_hour = codes "what stands before its first blank is no hour"

-- a page that does not stand behind the blank [hourly-line], and a name that is none [hourly-pages]
abbrev pub no_hex : List ℕ
no_hex = codes "the page is not in hex"

abbrev pub no_text : List ℕ
no_text = codes "the name is no text"

-- a file that was not opened or read, with the reason that the system gives [hourly-said]
abbrev pub not_opened : List ℕ → List ℕ
not_opened reason = codes "not opened: " ++ shown reason

abbrev pub read_failed : List ℕ → List ℕ
read_failed reason = codes "read failed: " ++ shown reason
