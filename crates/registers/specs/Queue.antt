-- The queue of a FIFO voice: a ring over the voice's own 2,048 entries, and the sample that is held.
use Rattle.std.specs.Prelude.{◌≡◌, Bool, true, false, cond, ◌&&◌, List, [], ◌∷◌, ℕ, zero, suc, ◌+◌, ◌-◌, ◌%◌, ◌^◌, ◌≤◌, ◌<◌, eqb, leb, ltb, ℤ, pos, nat_abs, set, get_or}
use Rattle.std.specs.Int.{w16}
use Rattle.std.proofs.Common.{SFits}
use Rattle.sizes.specs.Sizes.{fifo_capacity}
use Rattle.version.specs.Versions.{has3ws8pna}
use Rattle.version.specs.declared.SguVersion.{SguVersion}
use Rattle.registers.specs.PlainQueue.{PlainQueue}
use Rattle.registers.specs.declared.Fifo.{Fifo}

abbrev pub default_fifo : Fifo
default_fifo = record { head = 0; count = 0; held = pos 0; hold = 0; sub = 0; latch = 0 }

-- ---- one field set, the others as they were

abbrev pub set_count : Fifo → ℕ → Fifo
set_count f x = record { head = f.head; count = x; held = f.held; hold = f.hold; sub = f.sub; latch = f.latch }

abbrev pub set_hold : Fifo → ℕ → Fifo
set_hold f x = record { head = f.head; count = f.count; held = f.held; hold = x; sub = f.sub; latch = f.latch }

abbrev pub set_sub : Fifo → ℕ → Fifo
set_sub f x = record { head = f.head; count = f.count; held = f.held; hold = f.hold; sub = x; latch = f.latch }

abbrev pub set_latch : Fifo → ℕ → Fifo
set_latch f x = record { head = f.head; count = f.count; held = f.held; hold = f.hold; sub = f.sub; latch = x }

-- ---- push: the entry after the last takes the sample, unless the queue is full

abbrev pub place : Fifo → ℕ
place f = (f.head + f.count) % fifo_capacity

unfoldable pub pushed : Fifo → Fifo
pushed f = cond (ltb f.count fifo_capacity) (set_count f (f.count + 1)) f

unfoldable pub pushed_entries : Fifo → List ℤ → ℤ → List ℤ
pushed_entries f q sample = cond (ltb f.count fifo_capacity) (set q (place f) sample) q

-- ---- pop: the first is taken and held, if there is one

abbrev pub first_taken : Fifo → List ℤ → ℕ → Fifo
first_taken f q frequency = record { head = (f.head + 1) % fifo_capacity; count = f.count - 1; held = get_or q (f.head % fifo_capacity) (pos 0); hold = frequency; sub = f.sub; latch = f.latch }

unfoldable pub popped : Fifo → List ℤ → ℕ → Fifo
popped f q frequency = cond (eqb f.count 0) f (first_taken f q frequency)

-- the first tick of a frame: a new sample once the held one has lasted
unfoldable pub advanced : Fifo → List ℤ → ℕ → Fifo
advanced f q frequency = cond (eqb f.hold 0) (popped f q frequency) (set_hold f (f.hold - 1))

-- a tick: four of them are a frame
unfoldable pub ticked : Fifo → List ℤ → ℕ → Fifo
ticked f q frequency = set_sub (cond (eqb f.sub 0) (advanced f q frequency) f) ((f.sub + 1) % 4)

-- ---- the queue as a list, oldest first: n entries of the ring from a place on
unfoldable pub queued : List ℤ → ℕ → ℕ → List ℤ
queued q head zero = []
queued q head (suc n) = get_or q (head % fifo_capacity) (pos 0) ∷ queued q (head + 1) n

-- the plain queue that a ring and its entries stand for
abbrev pub plain_queue_of : List ℤ → Fifo → PlainQueue
plain_queue_of q f = record { samples = queued q f.head f.count; held = f.held; hold = f.hold; sub = f.sub; latch = f.latch }

-- ---- accepted values

-- nothing was pushed, held or latched; the head may stand anywhere
unfoldable pub is_quiet : Fifo → Bool
is_quiet f = eqb (nat_abs f.held) 0 && (eqb f.hold 0 && (eqb f.sub 0 && (eqb f.latch 0 && eqb f.count 0)))

pub record QuietFifo (f : Fifo) : Type 0 where
  pub held : f.held ≡ pos 0
  pub hold : f.hold ≡ 0
  pub sub : f.sub ≡ 0
  pub latch : f.latch ≡ 0
  pub count : f.count ≡ 0

-- V1 and V2 have no FIFO, and no call puts anything into a queue there
unfoldable pub allows_fifo : SguVersion → Fifo → Bool
allows_fifo version f = cond (has3ws8pna version) true (is_quiet f)

-- what a version keeps of a queue that was stored
unfoldable pub kept_fifo : SguVersion → Fifo → Fifo
kept_fifo version f = cond (allows_fifo version f) f default_fifo

unfoldable pub ranges_fifo : Fifo → Bool
ranges_fifo f = leb f.count fifo_capacity && (ltb f.head fifo_capacity && (leb f.sub 3 && leb f.hold 65535))

pub record RangedFifo (f : Fifo) : Type 0 where
  pub full : f.count ≤ fifo_capacity
  pub first : f.head < fifo_capacity
  pub tick : f.sub ≤ 3
  pub frames : f.hold ≤ 65535

unfoldable pub accepts_fifo : SguVersion → Fifo → Bool
accepts_fifo version f = ranges_fifo f && allows_fifo version f

pub record AcceptedFifo (version : SguVersion) (f : Fifo) : Type 0 where
  pub ranges : RangedFifo f
  pub quiet : has3ws8pna version ≡ false → QuietFifo f

-- ---- the ranges of the other fields
pub record FitFifo (f : Fifo) : Type 0 where
  pub sample : SFits w16 f.held
  pub byte : f.latch < 2 ^ 8
