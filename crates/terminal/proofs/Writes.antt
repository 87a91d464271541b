-- What a write of all bytes does to the screen, from what each call does. Assumes nothing.
use Rattle.std.proofs.Common.{◌≡◌, ℕ, ◌+◌, ◌-◌, ◌<◌, ◌≤◌, List, length, take, drop, Ok, Err, Result, sym, refl, ap, ◌∙◌, subst, arith, lit<, length-drop}
use Rattle.std.proofs.lemmas.List.{take_all, drop-drop}
use Rattle.screen.specs.Screen.{Screen}
use Rattle.screen.specs.Bytes.{feed}
use Rattle.terminal.specs.declared.size.Size.{Size}
use Rattle.terminal.specs.declared.terminal.WriteError.TheVariants.{Interrupted, Down}
use Rattle.terminal.specs.declared.writing.WriteFault.{WriteFault}
use Rattle.terminal.specs.declared.writing.WriteFault.TheVariants as faults
use Rattle.terminal.specs.declared.writing.BrokenWrite.{BrokenWrite}
use Rattle.terminal.specs.Windows.{geometry}
use Rattle.terminal.specs.Answers.{WriteAnswer, Worked, taken}
use Rattle.terminal.specs.Writing.{Sent, begun, took, interrupted, Offered, Breaks, Last, Ends, WroteAll}
use Rattle.terminal.specs.Feeds.{feed-more}

module _ {T : Type 0} (answered : T → List ℕ → WriteAnswer → T → Type 0) (bytes : List ℕ) (start : T) where
  -- how far a write has come, with just the rest of the bytes still to offer
  pub record Going (rest : List ℕ) (i : ℕ) (t : T) : Type 0 where
    pub count : ℕ
    pub few : count ≤ length bytes
    pub left : rest ≡ drop count bytes
    pub patient : i < 8
    pub sent : Sent answered bytes start count i t

module _ {T : Type 0} {answered : T → List ℕ → WriteAnswer → T → Type 0} {bytes : List ℕ} {start : T} where
  left-length : {rest : List ℕ} {i : ℕ} {t : T} (h : Going answered bytes start rest i t) → length rest ≡ length bytes - h.count
  left-length h = ap length h.left ∙ length-drop h.count bytes

  taken-so-far : {rest : List ℕ} {i : ℕ} {t : T} (h : Going answered bytes start rest i t) → h.count ≡ length bytes - length rest
  taken-so-far h = omega (arith, left-length h, h.few)

  offered : {rest : List ℕ} {i : ℕ} {t u : T} {a : WriteAnswer} (h : Going answered bytes start rest i t) → 0 < length rest → answered t rest a u → Offered answered bytes start h.count i t a u
  offered {rest} {i} {t} {u} {a} h some said =
      record { short = omega (arith, left-length h); patient = h.patient; answer = subst (λ l. answered t l a u) h.left said }

  -- some bytes are taken
  pub going-took : {rest : List ℕ} {i k : ℕ} {t u : T} → Going answered bytes start rest i t → 0 < length rest → answered t rest (Ok k) u → 0 < k → k ≤ length rest → Going answered bytes start (drop k rest) 0 u
  going-took {rest} {i} {k} h room said some within =
      record {
        count = h.count + k;
        few = omega (arith, left-length h);
        left = ap (drop k) h.left ∙ drop-drop k h.count bytes;
        patient = lit< tt;
        sent = took h.sent (offered h room said) some;
      }

  -- an interruption, and not the eighth
  pub going-on : {rest : List ℕ} {i : ℕ} {t u : T} → Going answered bytes start rest i t → 0 < length rest → answered t rest (Err Interrupted) u → i + 1 < 8 → Going answered bytes start rest (i + 1) u
  going-on h room said few = record { count = h.count; few = h.few; left = h.left; patient = few; sent = interrupted h.sent (offered h room said) }

  -- the eighth
  pub going-busy : {rest : List ℕ} {i : ℕ} {t u : T} → Going answered bytes start rest i t → 0 < length rest → answered t rest (Err Interrupted) u → 8 ≤ i + 1 → Last answered bytes start faults.Busy (length bytes - length rest) (Err Interrupted) u
  going-busy {rest} {i} {t} {u} h room said many =
      let eight : i + 1 ≡ 8 = omega (arith, h.patient) in
      (subst (λ j. Sent answered bytes start (length bytes - length rest) j u) eight (subst (λ n. Sent answered bytes start n (i + 1) u) (taken-so-far h) (interrupted h.sent (offered h room said))), refl)

  -- the terminal is down, or takes nothing
  pub going-down : {rest : List ℕ} {i : ℕ} {t u : T} {a : WriteAnswer} → Going answered bytes start rest i t → 0 < length rest → answered t rest a u → Breaks faults.Down a → Last answered bytes start faults.Down (length bytes - length rest) a u
  going-down {rest} {i} {t} {u} {a} h room said breaks =
      subst (λ n. Last answered bytes start faults.Down n a u) (taken-so-far h) (i, t, h.sent, offered h room said, breaks)

  -- once all is taken, no interruption came since
  sent-all : {n i : ℕ} {t : T} → Sent answered bytes start n i t → length bytes ≤ n → i ≡ 0
  sent-all begun all = refl
  sent-all (took s o some) all = refl
  sent-all (interrupted s o) all = absurd (omega (arith, o.short))

  pub going-done : {rest : List ℕ} {i : ℕ} {t : T} → Going answered bytes start rest i t → length rest ≡ 0 → Sent answered bytes start (length bytes) 0 t
  going-done {rest} {i} {t} h none =
      let all : h.count ≡ length bytes = omega (arith, left-length h, h.few) in
      subst (λ n. Sent answered bytes start n 0 t) all (subst (λ j. Sent answered bytes start h.count j t) (sent-all h.sent (omega arith)) h.sent)

module _ {T : Type 0} (w : ℕ → ℕ) (screen : T → Screen) (extent : T → Size) (answered : T → List ℕ → WriteAnswer → T → Type 0)
    (works : (s t : T) (bytes : List ℕ) (a : WriteAnswer) → answered s bytes a t → Worked (geometry w (extent s)) bytes (screen s) a (screen t))
    (fixed : (s t : T) (bytes : List ℕ) (a : WriteAnswer) → answered s bytes a t → extent t ≡ extent s)
    (bytes : List ℕ) (start : T) where
  -- the size is that at the start, and the first n bytes have worked
  pub record Through (n : ℕ) (t : T) : Type 0 where
    pub size : extent t ≡ extent start
    pub few : n ≤ length bytes
    pub drawn : screen t ≡ feed (geometry w (extent start)) (take n bytes) (screen start)

  through-more : (n i : ℕ) (t u : T) (a : WriteAnswer) → Through n t → Offered answered bytes start n i t a u → Through (n + taken a) u
  through-more n i t u a h o =
      let did = works t u (drop n bytes) a o.answer in
      let here = did.drawn ∙ ap (λ z. feed (geometry w z) (take (taken a) (drop n bytes)) (screen t)) h.size ∙ ap (feed (geometry w (extent start)) (take (taken a) (drop n bytes))) h.drawn in
      record {
        size = fixed t u (drop n bytes) a o.answer ∙ h.size;
        few = omega (arith, did.within, length-drop n bytes, o.short);
        drawn = here ∙ feed-more (geometry w (extent start)) n (taken a) bytes (screen start);
      }

  -- nothing taken by the call
  through-none : (n i : ℕ) (t u : T) (a : WriteAnswer) → taken a ≡ 0 → Through n t → Offered answered bytes start n i t a u → Through n u
  through-none n i t u a none h o = let same : n + taken a ≡ n = omega arith in subst (λ m. Through m u) same (through-more n i t u a h o)

  pub sent-through : {n i : ℕ} {t : T} → Sent answered bytes start n i t → Through n t
  sent-through begun = record { size = refl; few = omega arith; drawn = refl }
  sent-through (took {n} {i} {k} {t} {u} s o some) = through-more n i t u (Ok k) (sent-through s) o
  sent-through (interrupted {n} {i} {t} {u} s o) = through-none n i t u (Err Interrupted) refl (sent-through s) o

  busy-short : {n i : ℕ} {t : T} → Sent answered bytes start n i t → 0 < i → n < length bytes
  busy-short begun some = absurd (omega arith)
  busy-short (took s o more) some = absurd (omega arith)
  busy-short (interrupted s o) some = o.short

  broke-none : (a : WriteAnswer) → Breaks faults.Down a → taken a ≡ 0
  broke-none (Ok k) h = h
  broke-none (Err Interrupted) h = refl
  broke-none (Err Down) h = refl

  -- the call that broke the write
  last-through : (f : WriteFault) (n : ℕ) (a : WriteAnswer) (end : T) → Last answered bytes start f n a end → (n < length bytes) × Through n end × Breaks f a
  last-through faults.Down n a end h =
      let o = h.3 in
      (o.short, through-none n h.0 h.1 end a (broke-none a h.4) (sent-through h.2) o, h.4)
  last-through faults.Busy n a end h = (busy-short h.0 (omega arith), sent-through h.0, subst (Breaks faults.Busy) (sym h.1) tt)

  pub ends-fixed : (r : Result Unit BrokenWrite) (end : T) → Ends answered bytes start r end → extent end ≡ extent start
  ends-fixed (Ok u) end h = (sent-through h).size
  ends-fixed (Err e) end h = (last-through e.fault e.taken e.answer end h).1.size

  pub ends-wrote : (r : Result Unit BrokenWrite) (end : T) → Ends answered bytes start r end → WroteAll (geometry w (extent start)) bytes (screen start) r (screen end)
  ends-wrote (Ok u) end h = (sent-through h).drawn ∙ ap (λ l. feed (geometry w (extent start)) l (screen start)) (take_all (length bytes) bytes (omega arith))
  ends-wrote (Err e) end h =
      let l = last-through e.fault e.taken e.answer end h in
      record { short = l.0; drawn = l.1.drawn; breaks = l.2 }
