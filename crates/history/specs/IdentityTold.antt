-- What every page of IDENTIFY DEVICE tells: the settings of power-on. From calls, refusals and frames alone.
use Rattle.std.specs.Prelude.{◌≡◌, true, ◌&&◌, List, [], ◌∷◌, ℕ, Ok}
use Rattle.identity.specs.Page.{identity_page}
use Rattle.identity.specs.Read.{all_told, read_identity}
use Rattle.identity.specs.declared.words.Identity.{Identity}
use Rattle.history.specs.Event.{Event}
use Rattle.history.specs.Asked.{asks}
use Rattle.history.specs.Replied.{paged, page}

-- what it is made of: depth and capacity at power-on
abbrev pub identity_by : ℕ → ℕ → Identity
identity_by deep capacity = record { depth = deep; capacity = capacity }

-- it is that of depth and capacity, byte for byte, and its reader tells both
pub record TellsIdentity (deep capacity : ℕ) (e : Event) : Type 0 where
  pub bytes : page e ≡ identity_page (identity_by deep capacity)
  pub fields : read_identity (page e) ≡ Ok (all_told (identity_by deep capacity))

-- of every page that answered an IDENTIFY DEVICE, whatever came before [identity-told]
unfoldable pub IdentityTold : ℕ → ℕ → List Event → Type 0
IdentityTold deep capacity [] = Unit
IdentityTold deep capacity (e ∷ h) = ((asks e).identifies && paged e ≡ true → TellsIdentity deep capacity e) × IdentityTold deep capacity h
