-- The turns of the loop that writes the fields of a line's replies.
use Rattle.std.proofs.Common.{◌≡◌, ℕ, ◌<◌, Bool, List, ◌∷◌, ◌++◌, length, take, drop, arith, ◌∙◌, append_assoc}
use Rattle.frames.specs.Cut.{first_length, cut}
use Rattle.frames.proofs.CutLaws.{cut_next}
use Rattle.events.specs.Lines.{field_of, fields_of}

-- one reply more
pub fields_more : (traced : Bool) (reply : List ℕ) (rest replies : List (List ℕ)) (done all : List ℕ) → replies ≡ reply ∷ rest
    → done ++ fields_of traced replies ≡ all → (done ++ field_of traced reply) ++ fields_of traced rest ≡ all
fields_more traced reply rest replies done all e p = append_assoc done (field_of traced reply) (fields_of traced rest) ∙ (rw e at p)

-- of bytes that are cut into replies: behind the field of the first piece come those of what is behind it
pub fields_turn : (traced : Bool) (l piece more : List ℕ) (n : ℕ) (done all : List ℕ) → 0 < length l → n ≡ first_length l → piece ≡ take n l → more ≡ drop n l
    → done ++ fields_of traced (cut l) ≡ all → (done ++ field_of traced piece) ++ fields_of traced (cut more) ≡ all
fields_turn traced l piece more n done all h e f g p =
    rw (f, g, e) (fields_more traced (take (first_length l) l) (cut (drop (first_length l) l)) (cut l) done all (cut_next l (λ z. omega (arith, z, h))) p)
