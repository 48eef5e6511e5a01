-- The entries behind a tag.
use Rattle.std.proofs.Common.{◌≡◌, ℕ, ◌+◌, ◌<◌, ◌≤◌, List, ◌++◌, drop, drop-cons, length, get_or, sym, ◌∙◌, ap, add-one, append_assoc, append-nil}
use Rattle.std.proofs.lemmas.List.{drop_all}
use Rattle.device_state.specs.declared.shapes.Entry.{Entry}
use Rattle.call_scripts.specs.Rows.{told_text, entries_text}

next : (es : List Entry) (i : ℕ) (d : Entry) → i < length es → entries_text i (drop i es) ≡ told_text i (get_or es i d) ++ entries_text (i + 1) (drop (i + 1) es)
unfolding entries_text
next es i d h = ap (λ (l : List Entry). entries_text i l) (drop-cons es i d h) ∙ ap (λ (n : ℕ). told_text i (get_or es i d) ++ entries_text (i + 1) (drop n es)) (sym (add-one i))

-- one entry more
pub entries_more : (es : List Entry) (i : ℕ) (d : Entry) (done all : List ℕ) → i < length es → done ++ entries_text i (drop i es) ≡ all → (done ++ told_text i (get_or es i d)) ++ entries_text (i + 1) (drop (i + 1) es) ≡ all
entries_more es i d done all h e = append_assoc done (told_text i (get_or es i d)) (entries_text (i + 1) (drop (i + 1) es)) ∙ ap (λ (l : List ℕ). done ++ l) (sym (next es i d h)) ∙ e

-- there are no more
pub entries_done : (es : List Entry) (i : ℕ) (done all : List ℕ) → length es ≤ i → done ++ entries_text i (drop i es) ≡ all → done ≡ all
unfolding entries_text
entries_done es i done all h e = sym (append-nil done) ∙ ap (λ (l : List Entry). done ++ entries_text i l) (sym (drop_all i es h)) ∙ e
