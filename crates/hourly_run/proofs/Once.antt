-- What an input tells is one thing: of lines of hex whatever it is, and of files whose bytes are known wherever it is a table.
use Rattle.std.proofs.Common.{◌≡◌, refl, sym, ap, ◌∙◌, subst, ℕ, ◌+◌, true, List, [], ◌∷◌, is_some, inl, inr, take, Option, Some, None, Result, Ok, Err}
use Rattle.hourly_table.specs.Samples.{Sampled}
use Rattle.page_text.specs.Opened.{Agrees}
use Rattle.hourly_run.specs.Entries.{Entry, entry_of}
use Rattle.hourly_run.specs.Faults.{no_text}
use Rattle.hourly_run.specs.Pages.{Page, MayRead, MayOpen, MayGive}
use Rattle.hourly_run.specs.Said.{line_said}
use Rattle.hourly_run.specs.Samples.{Told, sample_at, MayTell, in_front, Joined, SamplesIn}

one_sample : (entry : Entry) (s t : Result Sampled (List ℕ)) → MayTell None entry s → MayTell None entry t → s ≡ t
one_sample (Err why) s t p q = p ∙ sym q
one_sample (Ok entry) s t p q = p.2 ∙ ap (sample_at entry.0) (p.1 ∙ sym q.1) ∙ sym q.2

one_joined : (said : List ℕ → List ℕ) (s : Result Sampled (List ℕ)) (Behind : Told → Type 0) → ((x y : Told) → Behind x → Behind y → x ≡ y) → (a b : Told) → Joined said s Behind a → Joined said s Behind b → a ≡ b
one_joined said (Err why) Behind once a b p q = p ∙ sym q
one_joined said (Ok sample) Behind once a b p q = p.2 ∙ ap (in_front sample) (once p.0 q.0 p.1 q.1) ∙ sym q.2

-- of hex
pub one_of_hex : (n : ℕ) (lines : List (List ℕ)) (a b : Told) → SamplesIn None n lines a → SamplesIn None n lines b → a ≡ b
unfolding SamplesIn
one_of_hex n [] a b p q = p ∙ sym q
one_of_hex n (line ∷ lines) a b p q =
    one_joined (line_said None n (entry_of line)) p.0 (SamplesIn None (n + 1) lines) (one_of_hex (n + 1) lines) a b p.2
    (subst (λ (o : Result Sampled (List ℕ)). Joined (line_said None n (entry_of line)) o (SamplesIn None (n + 1) lines) b) (sym (one_sample (entry_of line) p.0 q.0 p.1 q.1)) q.2)

-- ---- of files

module _ (p q : List ℕ) where
  one_read : (held o o' : Option (Option (List ℕ))) → is_some held ≡ true → Agrees held o → Agrees held o' → MayRead o (Ok p) → MayRead o' (Ok q) → p ≡ q
  one_read None o o' known a b m n = absurd (cc)
  one_read (Some None) o o' known a b m n = let none = subst (λ (x : Option (Option (List ℕ))). MayRead x (Ok p)) a m in absurd (let z : Ok p ≡ Err _ = none.1 in cc)
  one_read (Some (Some bytes)) o o' known a b m n =
      let m' : take 513 bytes ≡ p = subst (λ (x : Option (Option (List ℕ))). MayRead x (Ok p)) a m in
      let n' : take 513 bytes ≡ q = subst (λ (x : Option (Option (List ℕ))). MayRead x (Ok q)) b n in
      sym m' ∙ n'

module _ (holds : List ℕ → Option (Option (List ℕ))) (known : (name : List ℕ) → is_some (holds name) ≡ true) where
  -- a page that was given was read
  opened_of : (name p : List ℕ) → MayGive (Some holds) name (Ok p) → MayOpen (holds name) (Ok p)
  opened_of name p m = elim m [ inl none ↦ absurd (let z : Ok p ≡ Err no_text = none.1 in cc) | inr some ↦ some.1 ]

  one_page : (hour : ℕ) (name : List ℕ) (p q : Page) (s t : Sampled) → MayGive (Some holds) name p → MayGive (Some holds) name q → Ok s ≡ sample_at hour p → Ok t ≡ sample_at hour q → s ≡ t
  one_page hour name (Err why) q s t m n e f = absurd (cc)
  one_page hour name (Ok p) (Err why) s t m n e f = absurd (cc)
  one_page hour name (Ok p) (Ok q) s t m n e f =
      let a = opened_of name p m in
      let b = opened_of name q n in
      let same = one_read p q (holds name) a.0 b.0 (known name) a.1 b.1 a.2 b.2 in
      let g : Ok s ≡ Ok t = e ∙ ap (λ x. sample_at hour (Ok x)) same ∙ sym f in
      cc

  one_told : (entry : Entry) (s t : Sampled) → MayTell (Some holds) entry (Ok s) → MayTell (Some holds) entry (Ok t) → s ≡ t
  one_told (Err why) s t p q = absurd (cc)
  one_told (Ok entry) s t p q = one_page entry.0 entry.1 p.0 q.0 s t p.1 q.1 p.2 q.2

  -- a line's sample, and those behind it, where all lines tell one
  record Front (Behind : Told → Type 0) (s : Result Sampled (List ℕ)) (a : List Sampled) : Type 0 where
    sample : Sampled
    more : List Sampled
    told : s ≡ Ok sample
    behind : Behind (Ok more)
    whole : a ≡ sample ∷ more

  parted : (Behind : Told → Type 0) (sample : Sampled) (m : Told) (a : List Sampled) → Behind m → Ok a ≡ in_front sample m → Front Behind (Ok sample) a
  parted Behind sample (Ok more) a b e = record { sample = sample; more = more; told = refl; behind = b; whole = cc }
  parted Behind sample (Err l) a b e = absurd (cc)

  front : (said : List ℕ → List ℕ) (Behind : Told → Type 0) (s : Result Sampled (List ℕ)) (a : List Sampled) → Joined said s Behind (Ok a) → Front Behind s a
  front said Behind (Err why) a p = absurd (cc)
  front said Behind (Ok sample) a p = parted Behind sample p.0 a p.1 p.2

  -- and so a table of them
  pub one_of_files : (n : ℕ) (lines : List (List ℕ)) (a b : List Sampled) → SamplesIn (Some holds) n lines (Ok a) → SamplesIn (Some holds) n lines (Ok b) → a ≡ b
  unfolding SamplesIn
  one_of_files n [] a b p q = let e : Ok a ≡ Ok b = p ∙ sym q in cc
  one_of_files n (line ∷ lines) a b p q =
      let f = front (line_said (Some holds) n (entry_of line)) (SamplesIn (Some holds) (n + 1) lines) p.0 a p.2 in
      let g = front (line_said (Some holds) n (entry_of line)) (SamplesIn (Some holds) (n + 1) lines) q.0 b q.2 in
      let s = one_told (entry_of line) f.sample g.sample (subst (λ (o : Result Sampled (List ℕ)). MayTell (Some holds) (entry_of line) o) f.told p.1) (subst (λ (o : Result Sampled (List ℕ)). MayTell (Some holds) (entry_of line) o) g.told q.1) in
      let m = one_of_files (n + 1) lines f.more g.more f.behind g.behind in
      cc (f.whole, g.whole, s, m)
