-- Feed and finish, over a reader and a window that stand for a reading of B, leave a reader and a window that stand for it, with the same answers due.
-- Assumes nothing.
use Prim.Native.Nat.{ℕ, suc, ◌+◌, ◌-◌, ◌≤◌, ◌<◌, min}
use native.Mathlib.Omega.{arith}
use native.Mathlib.Nat.{add-zero, sub-zero}
use mathlib.Core.Path.{◌≡◌, refl, sym, ap, ap₂, ◌∙◌, subst}
use mathlib.Core.Bool.{Bool, true, false}
use mathlib.Core.List.{List, [], ◌∷◌, ◌++◌, map, append_assoc}
use lib.ListN.{length, take, drop, length-append, length-take, length-drop, length-map}
use lib.Seq.{slice, take_at, take-add, take-take, drop-drop, length-take-le, length-slice, take-append-le}
use lib.Dec.{leb}
use borrow.Author.Tests.{leb-true, ltb-false}
use Rattle.std.specs.Prelude.{Result, Ok, Err}
use Rattle.reading.specs.Bytes.{line_ends}
use Rattle.reading.specs.Reading.{first}
use Rattle.reading.proofs.Lines.{line_ends-shift}
use Rattle.reading.proofs.Shifted.{drop-take}
use Rattle.record.specs.declared.Noted.{Noted}
use Rattle.record.specs.declared.Noted.TheVariants.{Zero, One, Two, Three, Four}
use Rattle.record.specs.Noted.{listed}
use Rattle.reader.specs.declared.Reader.{Reader}
use Rattle.reader.specs.declared.Refusal.{Refusal}
use Rattle.reader.specs.State.{most_bytes, own, Notes}
use Rattle.reader.specs.Feed.{held_of, taken_of, notes_from, filled, front_of, moves, front_if, taking_by, taking_of, ready_by, ready_of, feed_by, feed_of, kept_by, landed_on, landed, fed_by, fed_window, ended_of, finish_by, finish_of}
use Rattle.reader.proofs.Nexting.{notes_mark}
use Rattle.demands.specs.Runs.{took_of}
use Rattle.demands.proofs.Standing.{Holds, Good, due_by, due, due_few}

-- ---- finish

-- what a call leaves: a reader and a window that stand for the reading, with the same answers due
pub record Kept (B : List ℕ) (s s' : Reader) (w' : List ℕ) (t' : ℕ) : Type 0 where
  pub good : Good B s' w' t'
  pub same : (n : ℕ) → due n B s ≡ due n B s'

pub finish_kept : (B : List ℕ) (s : Reader) (w : List ℕ) (t : ℕ) → Good B s w t → length B ≤ t → Kept B s (finish_of s (length w)).state w t
unfolding finish_of
finish_kept B s w t g e = go (ready_of s (length w))
  where
    stays : Kept B s s w t
    stays = record { good = g; same = λ n. refl }

    go : (a : Result Unit Refusal) → Kept B s (finish_by s a).state w t
    go (Err r) = stays
    go (Ok u) =
        let h = g.holds in
        record {
          good =
              record {
                holds =
                    record {
                      wide = h.wide;
                      start_fill = h.start_fill;
                      fill_wide = h.fill_wide;
                      start_byte = h.start_byte;
                      same = h.same;
                      within = h.within;
                      reached = h.reached;
                      near = h.near;
                      at_end = λ x. e;
                    };
                notes = g.notes;
                lines = g.lines;
                noted = g.noted;
                seeks = g.seeks;
              };
          same = λ n. due_ended n s.closed s.noted;
        }
      where
        due_ended : (n : ℕ) (c : Bool) (f : Noted) → due_by n B s c f ≡ due_by n B (ended_of s) c f
        due_ended n true f = refl
        due_ended n false Zero = refl
        due_ended n false (One a) = refl
        due_ended n false (Two a b) = refl
        due_ended n false (Three a b c) = refl
        due_ended n false (Four a b c d) = refl

-- ---- the window after feed

module _ (front chunk w : List ℕ) (room : length front + length chunk ≤ length w) where
  landed-length : length (landed_on front chunk w) ≡ length w
  landed-length =
      length-append front (chunk ++ drop (length front + length chunk) w)
      ∙ omega (arith, length-append chunk (drop (length front + length chunk) w), length-drop (length front + length chunk) w)

  landed_front : take (length front + length chunk) (landed_on front chunk w) ≡ front ++ chunk
  landed_front =
      rw (← append_assoc front chunk (drop (length front + length chunk) w))
      (take_at (front ++ chunk) (drop (length front + length chunk) w) (length front + length chunk) (length-append front chunk))

  landed_under : (k : ℕ) → k ≤ length front → take k (landed_on front chunk w) ≡ take k front
  landed_under k h = take-append-le k front (chunk ++ drop (length front + length chunk) w) h

-- bytes of B and the next ones of it make more bytes of B
grown : (B front bytes : List ℕ) (at f n t : ℕ) → front ≡ take f (drop at B) → at + f ≡ t → bytes ≡ take n (drop t B) → front ++ bytes ≡ take (f + n) (drop at B)
grown B front bytes at f n t e q c =
    ap₂ (λ (x y : List ℕ). x ++ y) e (c ∙ ap (take n) (sym (drop-drop f at B ∙ ap (λ (j : ℕ). drop j B) q))) ∙ sym (take-add f n (drop at B))

-- (over plain numbers: differences make `omega` split)
more_within : (b at f n t x y : ℕ) → x ≡ b - t → n ≤ x → at + f ≡ t → y ≡ b - at → f ≡ min f y → f + n ≤ y
more_within b at f n t x y e k q d m = omega arith

-- ---- the notes after feed

-- notes fit all the more before a later fill point
notes_wider : (a fill fill' m : ℕ) (es : List ℕ) → fill ≤ fill' → Notes a fill m es → Notes a fill' m es
notes_wider a fill fill' m [] h n = (n.0, omega (arith, n.1))
notes_wider a fill fill' m (e ∷ es) h n = (n.0, omega (arith, n.1), notes_wider (suc e) fill fill' m es h n.2)

-- and counted from k
notes_less : (k a fill m : ℕ) (es : List ℕ) → k ≤ a → Notes a fill m es → Notes (a - k) (fill - k) (m - k) (map (λ e. e - k) es)
notes_less k a fill m [] h n = (omega (arith, n.0), omega (arith, n.1))
notes_less k a fill m (e ∷ es) h n =
    let q : suc e - k ≡ suc (e - k) = omega (arith, n.0) in
    (omega (arith, n.0), omega (arith, n.0, n.1), subst (λ (x : ℕ). Notes x (fill - k) (m - k) (map (λ y. y - k) es)) q (notes_less k (suc e) fill m es (omega (arith, n.0)) n.2))

listed_from : (k : ℕ) (e : Noted) → listed (notes_from k e) ≡ map (λ x. x - k) (listed e)
listed_from k Zero = refl
listed_from k (One a) = refl
listed_from k (Two a b) = refl
listed_from k (Three a b c) = refl
listed_from k (Four a b c d) = refl

map_back : (k : ℕ) (es : List ℕ) → map (λ e. e - k) (map (λ e. k + e) es) ≡ es
map_back k [] = refl
map_back k (e ∷ es) = let q : k + e - k ≡ e = omega arith in rw (q, map_back k es)

-- line ends counted from k are those of the bytes counted from 0
ends_less : (k : ℕ) (xs : List ℕ) → map (λ e. e - k) (line_ends k xs) ≡ line_ends 0 xs
ends_less k xs =
    ap (map (λ e. e - k)) (ap (λ (j : ℕ). line_ends j xs) (sym (add-zero k)) ∙ line_ends-shift k 0 xs) ∙ map_back k (line_ends 0 xs)

-- ---- feed

module _ (B : List ℕ) (s : Reader) (w chunk : List ℕ) (t : ℕ) (g : Good B s w t) (wait : s.waiting ≡ true) (open' : s.ended ≡ false)
    (next : take (taken_of s (length chunk)) chunk ≡ take (taken_of s (length chunk)) (drop t B)) (more : taken_of s (length chunk) ≤ length (drop t B))
    (near : s.byte.0 + held_of s + taken_of s (length chunk) ≤ most_bytes) where
  h : Holds B w s.window s.start s.fill s.byte.0 t s.ended
  h = g.holds

  abbrev n : ℕ
  n = taken_of s (length chunk)

  abbrev bytes : List ℕ
  bytes = take n chunk

  took : length bytes ≡ n
  took = length-take-le n chunk (omega arith)

  fits : s.fill ≤ length w
  fits = omega (arith, h.wide, h.fill_wide)

  sought : (s.closed ≡ false) × (length (listed s.noted) < 4)
  sought = g.seeks wait

  noted : listed s.noted ≡ line_ends s.start (slice s.start s.mark w)
  noted = g.noted sought.0 sought.1

  mark_in : (s.start ≤ s.mark) × (s.mark ≤ s.fill)
  mark_in = notes_mark s.start s.fill s.mark (listed s.noted) g.notes

  -- the bytes land behind those that are kept, `front`, which stand for B from `at` on
  lands : (front : List ℕ) (at start f : ℕ) → front ≡ take f (drop at B) → length front ≡ f → at + f ≡ t → at ≡ s.byte.0 - start → start ≤ s.byte.0 → start ≤ f → f + n ≤ s.window
      → Holds B (landed_on front bytes w) s.window start (f + n) s.byte.0 (t + n) s.ended
  lands front at start f e l q a b c d =
      let room : length front + length bytes ≤ length w = omega (arith, took, h.wide) in
      record {
        wide = landed-length front bytes w room ∙ h.wide;
        start_fill = omega arith;
        fill_wide = d;
        start_byte = b;
        same =
            rw (← a)
            (ap (λ (k : ℕ). take k (landed_on front bytes w)) (sym (ap₂ (λ (x y : ℕ). x + y) l took))
            ∙ landed_front front bytes w room
            ∙ grown B front bytes at f n t e q next);
        within = rw (← a) (more_within (length B) at f n t (length (drop t B)) (length (drop at B)) (length-drop t B) more q (length-drop at B) (sym l ∙ ap length e ∙ length-take f (drop at B)));
        reached = omega arith;
        near = omega (arith, near, h.reached, h.start_byte, h.start_fill);
        at_end = λ x. let z : ◌≡◌ {A = ℕ} 0 1 = cc in absurd (omega arith);
      }

  due_first : (k : ℕ) → due k B s ≡ first k B s.window s.byte.0 s.line.0
  due_first k = ap (λ (c : Bool). due_by k B s c s.noted) sought.0 ∙ due_few k B s s.noted sought.1

  -- without a move
  stay_kept : moves s (length chunk) ≡ false → Kept B s (filled s n) (landed_on (take s.fill w) bytes w) (t + n)
  stay_kept m =
      let l : length (take s.fill w) ≡ s.fill = length-take-le s.fill w fits in
      let q : take s.mark (landed_on (take s.fill w) bytes w) ≡ take s.mark w =
      take-append-le s.mark (take s.fill w) (bytes ++ drop (length (take s.fill w) + length bytes) w) (omega (arith, l, mark_in))
      ∙ take-take s.mark s.fill w mark_in.1 in
      record {
        good =
            record {
              holds =
                  lands (take s.fill w) (s.byte.0 - s.start) s.start s.fill h.same l h.reached refl h.start_byte h.start_fill
                  (omega (arith, ltb-false (s.window - s.fill) (length chunk) m, h.fill_wide));
              notes = notes_wider s.start s.fill (s.fill + n) s.mark (listed s.noted) (omega arith) g.notes;
              lines = g.lines;
              noted = λ x y. noted ∙ ap (λ (l : List ℕ). line_ends s.start (drop s.start l)) (sym q);
              seeks = λ x. sought;
            };
        same = λ k. due_first k ∙ sym (ap (λ (c : Bool). due_by k B (filled s n) c s.noted) sought.0 ∙ due_few k B (filled s n) s.noted sought.1);
      }

  -- with the kept bytes moved to the front
  move_kept : Kept B s (filled (front_of s) n) (landed_on (slice s.start s.fill w) bytes w) (t + n)
  move_kept =
      let front : List ℕ = slice s.start s.fill w in
      let l : length front ≡ held_of s = length-slice s.start s.fill w fits in
      let up : s.start + held_of s ≡ s.fill = omega (arith, h.start_fill) in
      let at : s.byte.0 - s.start + s.start ≡ s.byte.0 = omega (arith, h.start_byte) in
      let e : front ≡ take (held_of s) (drop s.byte.0 B) =
      ap (drop s.start) h.same
      ∙ ap (λ (k : ℕ). drop s.start (take k (drop (s.byte.0 - s.start) B))) (sym up)
      ∙ drop-take s.start (held_of s) (drop (s.byte.0 - s.start) B)
      ∙ ap (take (held_of s)) (drop-drop s.start (s.byte.0 - s.start) B ∙ ap (λ (k : ℕ). drop k B) at) in
      let far : s.start + (s.mark - s.start) ≡ s.mark = omega (arith, mark_in) in
      let part : take (s.mark - s.start) (landed_on front bytes w) ≡ slice s.start s.mark w =
      take-append-le (s.mark - s.start) front (bytes ++ drop (length front + length bytes) w) (omega (arith, l, mark_in))
      ∙ sym (drop-take s.start (s.mark - s.start) (take s.fill w))
      ∙ ap (drop s.start) (ap (λ (k : ℕ). take k (take s.fill w)) far ∙ take-take s.mark s.fill w mark_in.1) in
      let zero : s.start - s.start ≡ 0 = omega arith in
      let few : length (listed (notes_from s.start s.noted)) < 4 = rw (listed_from s.start s.noted, length-map) sought.1 in
      record {
        good =
            record {
              holds = lands front s.byte.0 0 (held_of s) e l (omega (arith, h.reached, h.start_byte, h.start_fill)) (sym (sub-zero s.byte.0)) (omega arith) (omega arith) (omega (arith, h.fill_wide));
              notes =
                  rw (listed_from s.start s.noted)
                  (notes_wider 0 (held_of s) (held_of s + n) (s.mark - s.start) (map (λ x. x - s.start) (listed s.noted)) (omega arith)
                  (subst (λ (x : ℕ). Notes x (held_of s) (s.mark - s.start) (map (λ y. y - s.start) (listed s.noted))) zero
                  (notes_less s.start s.start s.fill s.mark (listed s.noted) (omega arith) g.notes)));
              lines = g.lines;
              noted = λ x y. listed_from s.start s.noted ∙ ap (map (λ y. y - s.start)) noted ∙ ends_less s.start (slice s.start s.mark w) ∙ ap (line_ends 0) (sym part);
              seeks = λ x. (sought.0, few);
            };
        same = λ k.
            due_first k ∙ sym (ap (λ (c : Bool). due_by k B (filled (front_of s) n) c (notes_from s.start s.noted)) sought.0 ∙ due_few k B (filled (front_of s) n) (notes_from s.start s.noted) few);
      }

  taking_kept : Kept B s (filled (front_if (moves s (length chunk)) s) n) (landed s w chunk) (t + n)
  unfolding landed
  taking_kept = go (moves s (length chunk)) refl
    where
      go : (b : Bool) → moves s (length chunk) ≡ b → Kept B s (filled (front_if b s) n) (landed_on (kept_by b s w) bytes w) (t + n)
      go true e = move_kept
      go false e = stay_kept e

abbrev Keeps : List ℕ → Reader → List ℕ → List ℕ → ℕ → Reader → Result ℕ Refusal → Type 0
Keeps B s w chunk t s' a = take (took_of a) chunk ≡ take (took_of a) (drop t B) → took_of a ≤ length (drop t B) → Kept B s s' (fed_by s w chunk a) (t + took_of a)

-- FEED, refused or not: the bytes that were taken are the input's next ones
pub feed_kept : (B : List ℕ) (s : Reader) (w chunk : List ℕ) (t : ℕ) → Good B s w t
    → take (took_of (feed_of s (length w) (length chunk)).answer) chunk ≡ take (took_of (feed_of s (length w) (length chunk)).answer) (drop t B)
    → took_of (feed_of s (length w) (length chunk)).answer ≤ length (drop t B)
    → Kept B s (feed_of s (length w) (length chunk)).state (fed_window s w chunk) (t + took_of (feed_of s (length w) (length chunk)).answer)
unfolding fed_window feed_of taking_of
feed_kept B s w chunk t g = go (own s (length w)) s.ended refl s.waiting refl
  where
    stays : Kept B s s w (t + 0)
    stays = rw add-zero (record { good = g; same = λ k. refl })

    by : s.ended ≡ false → s.waiting ≡ true → (d : Bool) → leb (s.byte.0 + held_of s + taken_of s (length chunk)) most_bytes ≡ d
        → Keeps B s w chunk t (taking_by s (length chunk) d).state (taking_by s (length chunk) d).answer
    by e f true d c m = taking_kept B s w chunk t g f e c m (leb-true _ _ d)
    by e f false d c m = stays

    go : (a b : Bool) → s.ended ≡ b → (d : Bool) → s.waiting ≡ d → Keeps B s w chunk t (feed_by s (length chunk) (ready_by a b d)).state (feed_by s (length chunk) (ready_by a b d)).answer
    go false b e d f c m = stays
    go true true e d f c m = stays
    go true false e false f c m = stays
    go true false e true f c m = by e f (leb (s.byte.0 + held_of s + taken_of s (length chunk)) most_bytes) refl c m

-- what a feed says that it took is within the chunk
pub took_some : (s : Reader) (w n : ℕ) → took_of (feed_of s w n).answer ≤ n
unfolding feed_of taking_of
took_some s w n = go (ready_of s w)
  where
    by : (d : Bool) → took_of (taking_by s n d).answer ≤ n
    by true = omega arith
    by false = omega arith

    go : (a : Result Unit Refusal) → took_of (feed_by s n a).answer ≤ n
    go (Err r) = omega arith
    go (Ok u) = by (leb (s.byte.0 + held_of s + taken_of s n) most_bytes)
