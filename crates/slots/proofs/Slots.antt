-- The chip's voices seen as plain voices. Assumes nothing.
use mathlib.Core.Path.{refl}
use mathlib.Core.List.{List}
use Prim.Native.Nat.{ℕ}
use lib.IntN.{pos}
use lib.ListN.{length, replicate, length-replicate}
use Rattle.sizes.specs.Sizes.{fifo_capacity}
use Rattle.version.specs.declared.SguVersion.{SguVersion}
use Rattle.slots.specs.Slots.{empty_slot, plain_of}
use Rattle.slots.specs.Models.{slots}
use Rattle.plain_chip.specs.Models.{plains}
use Rattle.slots.specs.Good.{SlotOk}
use Rattle.slots.proofs.Fits.{entries-replicate}
use Rattle.slots.proofs.Writes.{same-write-control, same-write-pcm, same-write-wave, same-after-read, same-fresh, same-reset, same_version, same-poked, ok-fresh, ok-write-control, ok-write-pcm, ok-after-read, ok-write-wave, ok-reset, ok-accepted, ok-version}
use Rattle.slots.proofs.Loads.{same-loaded, ok-loaded}
use Rattle.slots.proofs.Pokes.{ok-poked}
use Rattle.slots.proofs.Ticks.{same-tick}
use Rattle.plain_chip.proofs.Sims.{Sim}

pub ok-empty : (version : SguVersion) (ram : List ℕ) → SlotOk version ram empty_slot
ok-empty version ram = ok-fresh version ram (replicate fifo_capacity (pos 0)) (length-replicate fifo_capacity (pos 0)) (entries-replicate fifo_capacity)

pub slots-plain : Sim plain_of SlotOk slots plains
slots-plain = record {
  absent = same-fresh (replicate fifo_capacity (pos 0));
  absent-ok = ok-empty;
  session = λ s. refl;
  load = λ version ram v s f ok. same-loaded version v s f ok.table ok.room;
  load_ok = λ version ram v s f ok. ok-loaded version ram v s f ok.coherent.room ok.table ok.room ok.entries;
  reset = same-reset;
  reset-ok = λ version ram ram' s ok. ok-reset version ram s ok ram' version;
  set_version = same_version;
  set_version-ok = λ old version ram s ok. ok-version old (length ram) s (ok-accepted old ram s ok) ram version;
  write_control = λ version ram offset value s ok. same-write-control version value s ok.room offset;
  write_control-ok = λ version ram offset value s h ok. ok-write-control version ram s ok offset value h;
  write_pcm = same-write-pcm;
  write_pcm-ok = λ version ram offset value s h ok. ok-write-pcm version ram s ok offset value h;
  write_wave = same-write-wave;
  write_wave-ok = λ version ram at value s h ok. ok-write-wave version ram s ok at value h;
  after_read = same-after-read;
  after_read-ok = λ version ram offset s ok. ok-after-read version ram s ok offset;
  poked = same-poked;
  poked-ok = λ version ram address value s ok. ok-poked version ram address value s ok;
  tick = λ version ram t sides s bytes ok. let r = same-tick version ram t sides s ok bytes in λ i. record { voice = r.voice i; sides = r.sides i; value = r.value i };
  tick-ok = λ version ram t sides s bytes ok. (same-tick version ram t sides s ok bytes).ok;
}
