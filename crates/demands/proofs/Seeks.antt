-- SEEK: after a seek the answers are the whole-file reading from that line and byte.
-- Assumes nothing.
use Prim.Native.Nat.{ℕ, ◌+◌, ◌-◌, ◌≤◌}
use native.Mathlib.Omega.{arith}
use mathlib.Core.Path.{◌≡◌, refl, sym, ap, ◌∙◌}
use mathlib.Core.Bool.{Bool, true, false, ◌&&◌}
use mathlib.Core.List.{List}
use lib.ListN.{length}
use lib.Seq.{slice_empty}
use lib.Dec.{leb, ltb}
use borrow.Author.Tests.{leb-true, ltb-true}
use Rattle.reading.specs.Bytes.{line_ends}
use Rattle.reading.specs.Reading.{first}
use Rattle.reader.specs.declared.Reader.{Reader}
use Rattle.reader.specs.declared.Position.{Position}
use Rattle.reader.specs.State.{most_bytes}
use Rattle.reader.specs.Seek.{base, is_held, moved_by, seek_by, seek_of}
use Rattle.reader.proofs.Owning.{both}
use Rattle.demands.specs.Runs.{Bench, Calls, Opened, reached_by, is_refused, sought, Roams, stays, calls, seeks}
use Rattle.demands.proofs.Standing.{Good, good_owned, due}
use Rattle.demands.proofs.Chunks.{Stands, call_step, step_stands, calls_steps, heard_due, opened_stands}

-- a move, inside or outside, leaves a reader that stands for the reading, at the sought place
record Placed (B : List ℕ) (s : Reader) (w : List ℕ) (t : ℕ) (p : Position) (W : ℕ) : Type 0 where
  good : Good B s w t
  due_there : (n : ℕ) → due n B s ≡ first n B W p.byte.0 p.line.0

moved_placed : (B : List ℕ) (s : Reader) (w : List ℕ) (t : ℕ) (p : Position) → Good B s w t → p.line.0 ≤ most_bytes → p.byte.0 ≤ most_bytes → (b : Bool) → is_held s p.byte.0 ≡ b
    → Placed B (moved_by s p b).state w (reached_by (moved_by s p b).answer t) p s.window
unfolding is_held line_ends
moved_placed B s w t p g l m true e =
    let h = g.holds in
    let f = both (leb (base s) p.byte.0) (ltb p.byte.0 (base s + s.fill)) e in
    let lo = leb-true (base s) p.byte.0 f.0 in
    let hi = ltb-true p.byte.0 (base s + s.fill) f.1 in
    let q : p.byte.0 - (p.byte.0 - base s) ≡ base s = omega arith in
    let at : ℕ = p.byte.0 - base s in
    record {
      good =
          record {
            holds =
                record {
                  wide = h.wide;
                  start_fill = omega arith;
                  fill_wide = h.fill_wide;
                  start_byte = omega arith;
                  same = rw q h.same;
                  within = rw q h.within;
                  reached = rw q h.reached;
                  near = h.near;
                  at_end = h.at_end;
                };
            notes = (omega arith, omega arith);
            lines = omega arith;
            noted = λ x y. ap (line_ends at) (sym (slice_empty at w));
            seeks = λ x. (refl, omega arith);
          };
      due_there = λ n. refl;
    }
moved_placed B s w t p g l m false e =
    record {
      good =
          record {
            holds =
                record {
                  wide = g.holds.wide;
                  start_fill = omega arith;
                  fill_wide = omega arith;
                  start_byte = omega arith;
                  same = refl;
                  within = omega arith;
                  reached = omega arith;
                  near = m;
                  at_end = λ x. let z : ◌≡◌ {A = ℕ} 0 1 = cc in absurd (omega arith);
                };
            notes = (omega arith, omega arith);
            lines = omega arith;
            noted = λ x y. refl;
            seeks = λ x. (refl, omega arith);
          };
      due_there = λ n. refl;
    }

seek_placed : (B : List ℕ) (b : Bench) (p : Position) → Stands B b → is_refused (seek_of b.reader (length b.window) p).answer ≡ false
    → Placed B (sought b p).reader b.window (sought b p).taken p b.reader.window
unfolding seek_of
seek_placed B b p g = rw (good_owned B b.reader b.window b.taken g) (go (leb p.line.0 most_bytes && leb p.byte.0 most_bytes) refl)
  where
    go : (c : Bool) → (leb p.line.0 most_bytes && leb p.byte.0 most_bytes) ≡ c → is_refused (seek_by b.reader p true c).answer ≡ false
        → Placed B (seek_by b.reader p true c).state b.window (reached_by (seek_by b.reader p true c).answer b.taken) p b.reader.window
    go true e f =
        let k = both (leb p.line.0 most_bytes) (leb p.byte.0 most_bytes) e in
        moved_placed B b.reader b.window b.taken p g (leb-true p.line.0 most_bytes k.0) (leb-true p.byte.0 most_bytes k.1) (is_held b.reader p.byte.0) refl
    go false e f = let z : ◌≡◌ {A = ℕ} 0 1 = cc in absurd (omega arith)

-- a seek that is not refused leaves a reader that stands for the reading
pub seek_stands : (B : List ℕ) (b : Bench) (p : Position) → Stands B b → is_refused (seek_of b.reader (length b.window) p).answer ≡ false → Stands B (sought b p)
seek_stands B b p g e = (seek_placed B b p g e).good

-- and the answers are those from there
pub seek_from : (B : List ℕ) (b c : Bench) (p : Position) → Stands B b → is_refused (seek_of b.reader (length b.window) p).answer ≡ false → Calls B (sought b p) c
    → c.heard ≡ first (length c.heard) B b.reader.window p.byte.0 p.line.0
seek_from B b c p g e y = let v = seek_placed B b p g e in heard_due (calls_steps y) v.good refl ∙ v.due_there (length c.heard)

-- wherever a reader has roamed, it stands for the reading
pub roams_stand : {B : List ℕ} {a b : Bench} → Roams B a b → Stands B a → Stands B b
roams_stand stays g = g
roams_stand (calls x c) g = step_stands (call_step c) (roams_stand x g)
roams_stand {B = B} (seeks {b = b} x p e) g = seek_stands B b p (roams_stand x g) e

-- SEEK. "A seek also reopens a closed reading. Afterwards, if the same input's bytes are fed, answers are the whole-file reading from that p and L":
-- from any place that calls and seeks have led a reader to, closed or not, after a seek that is not refused.
pub seek_reads : (B : List ℕ) (W : ℕ) (a b c : Bench) (p : Position) → Opened W a → Roams B a b
    → is_refused (seek_of b.reader (length b.window) p).answer ≡ false → Calls B (sought b p) c
    → c.heard ≡ first (length c.heard) B b.reader.window p.byte.0 p.line.0
seek_reads B W a b c p o x e y = seek_from B b c p (roams_stand x (opened_stands B W a o)) e y
