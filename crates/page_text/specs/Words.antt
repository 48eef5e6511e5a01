-- What lines of a page's text are made of.
use Rattle.std.specs.Prelude.{ℕ, ◌^◌, ◌-◌, true, false, List, [], ◌++◌, decimal, codes}
use Rattle.std.specs.Fmt.{digits, padded_integral, format_spec}
use Rattle.refusals.specs.Number.{number}
use Rattle.refusals.specs.declared.reasons.Refusal.{Refusal}

-- at least so many upper-case hex digits, with zeros in front [text-10h]
abbrev pub upper : ℕ → ℕ → List ℕ
upper width n = padded_integral (format_spec 32 0 4 width (2 ^ 64 - 1)) false [] (digits 16 true n)

-- the refusal's number [text-refused]
abbrev pub refusal_text : Refusal → List ℕ
refusal_text refusal = codes "refused " ++ decimal (number refusal) ++ codes "\n"
