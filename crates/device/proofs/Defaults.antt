-- A device by default is all zeros.
use Rattle.std.proofs.Common.{rules, ◌≡◌, sym, ◌∙◌, List, ℕ, ◌<◌, arith, replicate, ext_get_or}
use lib.ListN.{length-replicate}
use Rattle.std.specs.Array.{AllOfLen}
use Rattle.std.proofs.lemmas.List.{get_or-replicate}
use Rattle.device_state.specs.State.{zero_entry}
use Rattle.device_state.specs.declared.shapes.Entry.{Entry}
use Rattle.device.specs.Device.{fresh_device, zero_device}
use Rattle.device.specs.contracts.state.DeviceDefault.TheImpl
use Rattle.device.specs.declared.state.Device.{Device}

-- an array whose elements are one value each
one_value : {A : Type 0} (P : A → Type 0) (a : A) → ((x : A) → P x → x ≡ a) → (xs : List A) (n : ℕ) → AllOfLen P xs n → xs ≡ replicate n a
one_value P a known xs n made =
    ext_get_or a xs (replicate n a) (made.long ∙ sym (length-replicate n a)) (λ i h. let within : i < n = omega (arith, made.long) in known _ (made.at i a within) ∙ sym (get_or-replicate n i a a within))

pub default_zeros : (d : Device) → TheImpl.ghosts.is_default d → d ≡ zero_device
unfolding fresh_device
default_zeros d made =
    let table = one_value _ zero_entry (λ (e : Entry) p. search rules) d.entries 32 made.1.1.0 in
    let counters = one_value _ 0 (λ (n : ℕ) p. p) d.values 16 made.1.1.1.1 in
    search rules
