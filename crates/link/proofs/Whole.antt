-- The main promise, put together from the layers. Assumes nothing.
use Rattle.std.proofs.Common.{◌≡◌, ℕ, ◌<◌, ◌≤◌, Bool, true, List, length, sym, refl, subst, arith}
use Rattle.gf256.specs.Field.{product, product_by}
use Rattle.bits.proofs.Patterns.{vectors}
use Rattle.bits.proofs.Hamming.{distance_self}
use Rattle.bits.specs.Distance.{distance}
use Rattle.bits.specs.Heard.{Heard, Got}
use Rattle.bits.specs.Lists.{zeros}
use Rattle.conv_theory.specs.Code.{spread, parity}
use Rattle.conv_theory.specs.Statements.{TenReached}
use Rattle.rs_theory.proofs.Encoding.{outer-code}
use Rattle.rs_theory.proofs.Rows.{outer_rows}
use Rattle.reed_solomon.proofs.Small.{small_cases}
use Rattle.conv_theory.proofs.Apart.{ways-apart, inputs_apart}
use Rattle.conv_theory.proofs.Hard.{nearest}
use Rattle.frame_theory.specs.Frame.{carrier, frame, Hears}
use Rattle.frame_theory.specs.Promise.{FrameRight}
use Rattle.frame_theory.proofs.Frames.{frame_right}
use Rattle.transfer_theory.specs.World as world
use Rattle.transfer_theory.specs.Parts.{IsFile}
use Rattle.transfer_theory.specs.World.{World, step, Down, Up, RunBits}
use Rattle.transfer_theory.specs.Onward.{IsPayload, Harmless, Framed, Faithful, Carries, OnwardBits, Then, here, spoke, replied, below, above}
use Rattle.transfer_theory.specs.Rounds.{Rounds, none, more}
use Rattle.transfer_theory.proofs.Safety.{file-right}
use Rattle.transfer_theory.proofs.Strategy.{strategy-wins}
use Rattle.transfer_theory.proofs.Following.{says-payloads, fair-in, way_on, onward-bits}
use Rattle.transfer_theory.proofs.Turns.{round-then}
use Rattle.transfer_theory.proofs.InStep.{lockstep}
use Rattle.transfer_theory.proofs.Pairs.{bad-evening}
use Rattle.transfer_theory.proofs.Edges.{cases-hold}
use Rattle.link.specs.Ways.{Reached, Spoiled, Worn, LineOnward}
use Rattle.link.specs.Promise.{FileRight, Onward, Main}
use Rattle.link.specs.Rows.{Table}

frames : FrameRight
frames = frame_right outer-code nearest

harmless : Harmless Hears frame 4092 4
harmless = record { near = λ p r h k b d. frames.four_bits p r h (k, b) d; one = frames.one_thing }

framed : Framed frame 4092
framed p h = frames.whole p h

bits : OnwardBits Hears frame 4092 4
bits = onward-bits Hears frame 4092 4

file : FileRight
file n f l h w run = file-right n f l h w (bits.run n f true w run)

onward : Onward
onward n f l h w run =
    let plain = bits.run n f true w run in
    let on = bits.exists harmless framed n f l h w plain in
    record {
      wins = bits.wins harmless n f l h w plain;
      exists = (on.0, on.1, on.2, bits.fair harmless n f l h w on.0 run on.1);
      rounds = λ v k more rs. (lockstep Spoiled).ends (bits.faithful harmless) n f l h w v k plain more rs;
    }

-- ---- any faithful line whose things are heard in 4,092 bits each
module _ (C : List ℕ → Heard → Type 0) (x : Faithful C) (o : Carries C) (b : (p : List ℕ) (h : Heard) → C p h → (r : List ℕ) × (length r ≡ 4092) × Hears r h) where
  then-reached : (n : ℕ) (f : List ℕ) → n < 256 → IsFile f → {w v : World} → Reached n f w → Then C w v → Reached n f v
  then-reached n f m i r here = r
  then-reached n f m i r (spoke t) = world.RunBits.spoke (then-reached n f m i r t)
  then-reached n f m i r (replied t) = world.RunBits.replied (then-reached n f m i r t)
  then-reached n f m i r (below {v = v} t p h s c) =
      let q = then-reached n f m i r t in
      let e : h ≡ Got p = x p h ((says-payloads n f m i v (bits.run n f true v q)).2 p s) c in
      let k = b p h c in
      subst (λ (d : Bool). RunBits Hears 4092 n f d (step (Down h) v)) (fair-in n h p v.down e s) (world.below q k.0 h k.1 k.2)
  then-reached n f m i r (above {v = v} t p h s c) =
      let q = then-reached n f m i r t in
      let e : h ≡ Got p = x p h ((says-payloads n f m i v (bits.run n f true v q)).3 p s) c in
      let k = b p h c in
      subst (λ (d : Bool). RunBits Hears 4092 n f d (step (Up h) v)) (fair-in n h p v.up e s) (world.above q k.0 h k.1 k.2)

  rounds-reached : (n : ℕ) (f : List ℕ) → n < 256 → IsFile f → {w v : World} {k : ℕ} → Reached n f w → Rounds C w k v → Reached n f v
  rounds-reached n f m i r none = r
  rounds-reached n f m i r (more s t) = then-reached n f m i (rounds-reached n f m i r s) (round-then C t)

  line-onward : LineOnward C
  line-onward =
      record {
        faithful = x;
        carries = o;
        way = λ n f m i w run.
            let r = bits.run n f true w run in
            let steps = lockstep C in
            let night = bad-evening C in
            record {
              wins = strategy-wins C x n f m i w r;
              exists = way_on C x o n f m i w r;
              follows = λ v t. then-reached n f m i run t;
              played = λ k. steps.played x o n f m i w k r;
              led = λ v k s. rounds-reached n f m i run s;
              rounds = λ v k enough s. steps.ends x n f m i w v k r enough s;
              stays = λ a v k s. steps.stays x n f m i w v k r a s;
              brings = λ y v s t. night.brings x n f m i w y v r s t;
              evening = λ v k enough s. night.ends x n f m i w v k r enough s;
              evenings = λ k. night.played x o n f m i w k r;
              honest = λ v k s. night.fair x n f m i w v k r s;
            };
        not_before = (lockstep C).not_before x;
      }

-- ---- four bits of each frame
spoiled : LineOnward Spoiled
spoiled = line-onward Spoiled (bits.faithful harmless) (bits.carries harmless framed) (λ p h c. (c.0, c.1, c.4))

-- ---- sixteen bytes behind the inner code
worn-faithful : Faithful Worn
worn-faithful p h q (r, k, d, c) = frames.one_thing r h (Got p) c (frames.sixteen_bytes p r q k d)

worn-wider : (p : List ℕ) (h : Heard) → IsPayload p → Spoiled p h → Worn p h
worn-wider p h q (r, l, b, d, c) =
    let e = frames.none_wrong p r q (l, b) d in
    (r, (l, b), subst (λ (w : List ℕ). distance (carrier p) w ≤ 16) (sym e) (omega (arith, distance_self (carrier p))), c)

worn-carries : Carries Worn
worn-carries p q = let s = bits.carries harmless framed p q in (s.0, worn-wider p s.0 q s.1)

worn : LineOnward Worn
worn = line-onward Worn worn-faithful worn-carries (λ p h c. (c.0, c.1.0, c.3))

ten-reached : TenReached
unfolding spread parity zeros distance
ten-reached = refl

pub table : Table
unfolding product product_by spread parity zeros
table =
    record {
      field = refl;
      outer = outer_rows;
      repair = small_cases;
      inner = (refl, refl);
      bits = vectors;
      empty = cases-hold.empty;
      last_part = cases-hold.last;
      gap = cases-hold.gap;
    }

pub main : Main
main = record { outer = outer-code; inner = nearest; apart = (ways-apart, inputs_apart, ten-reached); frames = frames; file = file; onward = onward; spoiled = spoiled; worn = worn; wider = worn-wider }
