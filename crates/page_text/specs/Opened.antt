-- What opening a name gives.
use Rattle.std.specs.Prelude.{◌≡◌, ℕ, List, IfSome, Option, Some, None, Result, Ok, Err}
use Rattle.std.specs.Option.{option_map}

-- nothing, or what reads of it will give, as far as that is known
abbrev pub opened : {P E : Type 0} → (P → Option (List ℕ)) → Result P E → Option (Option (List ℕ))
opened remaining (Ok page) = Some (remaining page)
opened remaining (Err e) = None

-- what was opened is what is known of the name, if anything is [text-files]
abbrev pub Agrees : Option (Option (List ℕ)) → Option (Option (List ℕ)) → Type 0
Agrees held opened = IfSome held (λ bytes. opened ≡ option_map Some bytes)
