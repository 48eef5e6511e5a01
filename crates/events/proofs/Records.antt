-- A settings record is read as it was written, and none begins other bytes.
use Rattle.std.proofs.Common.{◌≡◌, ℕ, ◌*◌, ◌^◌, ◌<◌, ◌≤◌, true, false, true≢false, List, ◌∷◌, ◌++◌, length, take, take_all, drop, get_or, take-append-drop, Some, sym, ap, ap₂, ◌∙◌, arith, ⊎_elim}
use Rattle.std.proofs.lemmas.Bool.Decides.{nat_tests}
use Rattle.bits.specs.Little.{Bytes, le_at, le_bytes}
use Rattle.bits.proofs.Littles.{le_le_bytes, le_lt}
use Rattle.bits.proofs.Picks.{tested}
use Rattle.device_state.specs.declared.shapes.Settings.{Settings}
use Rattle.events.specs.Settings.{settings_bytes, SettingsFit, settings_of, NoSettingsBegin, FirstSettings}
use Rattle.events.specs.Stops.{starts_none}
use Rattle.events.proofs.Spelling.{listed, front, number_bytes}

-- what is taken are the record's bytes
pub spelt : (l : List ℕ) → Bytes l → 8 ≤ length l → get_or l 0 0 ≡ 0x00 → FirstSettings l (Some (settings_of l))
unfolding settings_of
spelt l w h k = (
  (w 1, le_lt l w 2 4, le_lt l w 6 2),
  front l 8 h ∙ ap (λ (b : ℕ). b ∷ listed l 1 7) k ∙ ap₂ (λ (c m : List ℕ). 0x00 ∷ get_or l 1 0 ∷ c ++ m) (sym (number_bytes l w 2 4)) (sym (number_bytes l w 6 2)),
)

-- so where the record is all that there is
pub whole : (l : List ℕ) → Bytes l → length l ≡ 8 → get_or l 0 0 ≡ 0x00 → SettingsFit (settings_of l) × (l ≡ settings_bytes (settings_of l))
whole l w h k = let b = spelt l w (omega (arith, h)) k in (b.0, sym (take_all 8 l (omega (arith, h))) ∙ b.1)

-- and its bytes are those of one record alone
same_number : (n a b : ℕ) → a < 2 ^ (8 * n) → b < 2 ^ (8 * n) → le_bytes n a ≡ le_bytes n b → a ≡ b
same_number n a b h k q = sym (le_le_bytes n h) ∙ ap (λ (l : List ℕ). le_at l 0 n) q ∙ le_le_bytes n k

-- settings of the same fields
same_settings : {d d' c c' m m' : ℕ} → d ≡ d' → c ≡ c' → m ≡ m' → ◌≡◌ {A = Settings} (record { depth = d; capacity = c; mask = m }) (record { depth = d'; capacity = c'; mask = m' })
same_settings p q r = cc

pub settings_once : (s t : Settings) (more more' : List ℕ) → SettingsFit s → SettingsFit t → settings_bytes s ++ more ≡ settings_bytes t ++ more' → (s ≡ t) × (more ≡ more')
settings_once s t more more' f g q =
    let depth : s.depth ≡ t.depth = ap (λ (l : List ℕ). get_or l 1 0) q in
    let capacity : s.capacity ≡ t.capacity = same_number 4 s.capacity t.capacity f.1 g.1 (ap (λ (l : List ℕ). take 4 (drop 2 l)) q) in
    let mask : s.mask ≡ t.mask = same_number 2 s.mask t.mask f.2 g.2 (ap (λ (l : List ℕ). take 2 (drop 6 l)) q) in
    (same_settings depth capacity mask, ap (λ (l : List ℕ). drop 8 l) q)

-- where the record is cut short, or another byte stands first, none begins
pub no_settings : (l : List ℕ) → starts_none l ≡ true → NoSettingsBegin l
no_settings l h s rest f q =
    let long : 8 ≤ length l = omega (arith, ap length q) in
    let kind : get_or l 0 0 ≡ 0x00 = ap (λ (m : List ℕ). get_or m 0 0) q in
    true≢false (sym h ∙ grind (arith, nat_tests, long, kind))

-- so behind a short body
pub settings_short : (k : ℕ) (l : List ℕ) → length l < 7 → NoSettingsBegin (k ∷ l)
settings_short k l h = no_settings (k ∷ l) (grind (arith, nat_tests))

-- ---- a settings record begins some bytes exactly if the rules say
pub begins : {l : List ℕ} {s : Settings} → FirstSettings l (Some s) → l ≡ settings_bytes s ++ drop 8 l
begins {l = l} b = sym (take-append-drop 8 l) ∙ ap (λ (e : List ℕ). e ++ drop 8 l) b.1

pub start_exactly : (l : List ℕ) → Bytes l → (NoSettingsBegin l → starts_none l ≡ true) × (starts_none l ≡ true → NoSettingsBegin l)
start_exactly l w = (λ n. ⊎_elim (λ (h : starts_none l ≡ true). h) (λ (h : starts_none l ≡ false). absurd (found h n)) (tested (starts_none l)), no_settings l)
  where
    found : starts_none l ≡ false → NoSettingsBegin l → ⊥
    found h n = let b = spelt l w (grind (arith, nat_tests)) (grind (arith, nat_tests)) in n (settings_of l) (drop 8 l) b.0 (begins b)
