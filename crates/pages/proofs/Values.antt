-- The value of an entry is read at each width: one law over the width, for every page.
use Rattle.std.proofs.Common.{Some, None, Ok, cond, ◌≡◌, true, ◌||◌, List, [], ◌∷◌, ℕ, zero, suc, ◌+◌, ◌*◌, ◌^◌, ◌≤◌, ◌<◌, not-suc-le-zero, le_of_suc-le-suc, arith, leb, lit<, length, get_or, leb-false}
use Rattle.refusals.specs.First.{first_of}
use Rattle.bits.specs.Little.{le_bytes}
use Rattle.bits.proofs.Picks.{or_right}
use Rattle.refusals.proofs.FirstLaws as firsts
use Rattle.std.specs.List.{list_any, count_by}
use Rattle.std.proofs.lemmas.List.Sums.{sum_by-cons, get_or-le-sum_by}
use Rattle.pages.specs.Entries.{CounterEntry, counter_entry, width_of, entry_asked, entries, wrong_width, past_end, nameless}
use Rattle.pages.specs.Read11.{damaged, value_of, value_in, ladder11, read_counter}
use Rattle.pages.proofs.ByWidth.{le_stands}

-- what stands past the end of a list of entries
abbrev pub no_entry : CounterEntry
no_entry = counter_entry 0 0

-- how a count goes on
pub count_more : (number : ℕ) (e : CounterEntry) (es : List CounterEntry) → count_by (entry_asked number) (e ∷ es) ≡ cond (entry_asked number e) 1 0 + count_by (entry_asked number) es
count_more number e es = sum_by-cons (λ (x : CounterEntry). cond (entry_asked number x) 1 0) e es

-- a hit somewhere in a list is counted
hit_counts : (number : ℕ) (es : List CounterEntry) (i : ℕ) → i < length es → entry_asked number (get_or es i no_entry) ≡ true → 1 ≤ count_by (entry_asked number) es
hit_counts number es i h t = rw t at (get_or-le-sum_by (λ (x : CounterEntry). cond (entry_asked number x) 1 0) es i no_entry h)

-- where no number is found twice, a hit is the answer
hit_reads : (page : List ℕ) (number : ℕ) (es : List CounterEntry) (i : ℕ) → count_by (entry_asked number) es < 2 → i < length es → entry_asked number (get_or es i no_entry) ≡ true
    → value_in page number es ≡ Some (value_of page (get_or es i no_entry))
unfolding value_in
hit_reads page number [] i m h t = absurd (not-suc-le-zero h)
hit_reads page number (e ∷ es) zero m h t = rw t
hit_reads page number (e ∷ es) (suc i) m h t =
    let k = le_of_suc-le-suc h in
    let r = hit_counts number es i k t in
    let c = count_more number e es in
    let q = hit_reads page number es i (omega (arith, c)) k t in
    grind (arith, r, c, q)

-- a page that is not refused has the asked number at most once
pub found_once : (page : List ℕ) (number : ℕ) → first_of (ladder11 page number) ≡ None → count_by (entry_asked number) (entries page) < 2
unfolding damaged
found_once page number z =
    let d = (firsts.first_exactly (ladder11 page number) tt).none.0 z 3 (lit< tt) in
    let es = entries page in
    leb-false 2 (count_by (entry_asked number) es) (or_right ((list_any wrong_width es || list_any past_end es) || list_any nameless es) (leb 2 (count_by (entry_asked number) es)) d)

-- of a page that is not refused: an entry of the asked number whose width is w, and whose 2 * w value bytes are those of v, reads as v in so many bytes
pub value_by_width : (page : List ℕ) (number i w v : ℕ) → first_of (ladder11 page number) ≡ None → i < length (entries page)
    → entry_asked number (get_or (entries page) i no_entry) ≡ true → width_of (get_or (entries page) i no_entry).id ≡ w → v < 2 ^ (8 * (2 * w))
    → ((j : ℕ) → j < 2 * w → get_or page ((get_or (entries page) i no_entry).place + 2 + j) 0 ≡ get_or (le_bytes (2 * w) v) j 0)
    → read_counter page number ≡ Ok (Some (record { value = v; bytes = 2 * w }))
unfolding read_counter
value_by_width page number i w v z h t e k b =
    let at = (get_or (entries page) i no_entry).place + 2 in
    rw (z, hit_reads page number (entries page) i (found_once page number z) h t, e, le_stands (2 * w) v k page at b)
