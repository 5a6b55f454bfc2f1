use Rattle.std.proofs.Common.{◌≡◌, ◌+◌, ◌≤◌, true, length, get_or, sym, refl, ap, ◌∙◌, arith, rules}
use lib.Seq.{sets, length-sets}
use Rattle.ticks.proofs.Sums.{stem-fits}
use Rattle.voices.proofs.Accepting.{accepted-core}
use Rattle.voices.proofs.Listed.{wrote-wavetable, wrote-block, wrote-above}
use Rattle.voices.proofs.Storing.{stored-emptied, stored-kept}
use Rattle.frames.specs.Listing.{Listed, lent_list, after_calls}
use Rattle.frames.proofs.Calling.{Begins, begins-by, nothing-begins, clock-begins, store-none, write-begins, read-begins, peek-begins, version-begins, look-byte, read-emptied, read-kept}
use Rattle.frames.proofs.Fits.{sized, bytes}
use Rattle.frames.proofs.Playing.{standing, begin, has-room, turn-made, over, placed, each-before, call-begun, less-left, clocked-most}
use Rattle.frames.proofs.Turns.{Turn, silent-turn, sound-turn, queue-turn, served-most, served-turn, stream-turn, turn_by}
use Rattle.frames.proofs.loops.play_calls.Goals as goal
use Rattle.frames.proofs.loops.play_calls.Goals.{Joined-kind, Joined-from, in-Silent, in-Oscillator, in-Sqv4+then-r-n, in-Sqv4+else-r-n, in-FifoDac}
use Rattle.frames.proofs.loops.play_calls.Goals.{in-WritePcmRam, in-WriteRegister+then-address-lt2048, in-WriteRegister+else-address-lt2048+then-address-lt2304+then-empties, in-WriteRegister+else-address-lt2048+then-address-lt2304+else-empties, in-WriteRegister+else-address-lt2048+else-address-lt2304, in-Read+then-read_empties, in-Read+else-read_empties, in-Peek, in-Clock, in-SetVersion, in-Nothing}

pub loop-turn-init : goal.loop-turn-init
loop-turn-init c =
    let a = c.args in
    let r = c.requires in (
      begin a.kinds.now a.addresses.now a.first a.n a.turns a.from a.to a.ram.now (lent_list a.core a.version a.ram.now a.queues.now a.values.now) a.stems.now a.at (length a.values.now) refl refl
          (record { accepted = accepted-core a.core a.version (length a.ram.now) (sized a.core c.well_formed.0.1.1) r.fact_3; bytes = bytes a.core c.well_formed.0.1.1 }) r.fact_2 refl,
      r.fact_4.0,
      r.fact_4.1,
      r.fact_4.2,
      r.fact_4.3,
      c.ranges.turns.fits,
      search rules,
    )

pub stream-v-requires-clause-fact_2 : goal.stream-v-requires-clause-fact_2
stream-v-requires-clause-fact_2 c =
    let a = c.args in
    let l = c.loop-turn in
    let ch = c.channel-ch in
    served-most l.version a.ram.now l.queues ch.result a.n l.core c.requires.fact_1.0 c.requires.fact_1.1 ch.ensures.1 l.invariant.0.ready (sym c.kind.ensures ∙ c.in-Sqv4.is) c.served-r.ensures.fit_sounding c.served-r.result c.served-r.ensures.result

-- the voice's turn, whichever way it came
came : (c : Joined-kind) → Turn c.loop-turn.version c.args.ram.now c.loop-turn.queues c.channel-ch.result c.args.n c.loop-turn.core c.match-kind.core c.match-kind.sides
came c =
    let a = c.args in
    let ch = c.channel-ch.result in
    let l = c.loop-turn in
    let there = c.channel-ch.ensures.1 in
    let is = sym c.kind.ensures in
    let low = c.requires.fact_1.0 in
    let high = c.requires.fact_1.1 in
    let ready = l.invariant.0.ready in
    elim c.match-kind.branch [
      | in-Silent w ↦ turn_by w.core-is (w.sides-is ∙ c.silent-sides.ensures) (silent-turn l.version a.ram.now l.queues ch a.n l.core low high there ready (is ∙ w.in-Silent.is))
      | in-Oscillator w ↦ turn_by w.core-is w.sides-is (sound-turn l.version a.ram.now l.queues ch a.n l.core low high there ready (is ∙ w.in-Oscillator.is) w.target_channel-a.result w.target-t.result w.oscillator-v.result w.after_sound.result w.target_channel-a.ensures.0 w.target-t.ensures w.oscillator-v.ensures.result w.oscillator-v.ensures.keeps w.after_sound.ensures)
      | in-Sqv4+then-r-n w ↦ turn_by w.core-is w.sides-is (served-turn l.version a.ram.now l.queues ch a.n l.core low high there ready (is ∙ w.in-Sqv4.is) w.served-r.ensures.fit_sounding w.served-r.result w.served-r.ensures.result w.after_served.result w.if-r-n.true w.after_served.ensures)
      | in-Sqv4+else-r-n w ↦ turn_by w.core-is w.sides-is (stream-turn l.version a.ram.now l.queues ch a.n l.core low high there ready (is ∙ w.in-Sqv4.is) w.served-r.ensures.fit_sounding w.served-r.result w.served-r.ensures.result w.stream-v.result _ w.after_stream.result w.stream-v.ensures w.after_stream.ensures)
      | in-FifoDac w ↦ turn_by w.core-is w.sides-is (queue-turn l.version a.ram.now l.queues ch a.n l.core low high there ready (is ∙ w.in-FifoDac.is) w.queue-v.result w.after_queue.result w.queue-v.ensures.result w.queue-v.ensures.keeps_fifo w.after_queue.ensures)
    ]

-- no voice's turn changes an entry
kept : (c : Joined-kind) → c.match-kind.queues ≡ c.loop-turn.queues
kept c =
    elim c.match-kind.branch [
      | in-Silent w ↦ w.queues-is
      | in-Oscillator w ↦ w.queues-is
      | in-Sqv4+then-r-n w ↦ w.queues-is
      | in-Sqv4+else-r-n w ↦ w.queues-is
      | in-FifoDac w ↦ w.queues-is ∙ w.queue-v.ensures.queues
    ]

-- the stem buffer is as long as it was, and has room for two more
long : (c : Joined-kind) → length c.loop-turn.stems ≡ length c.args.stems.now
long c =
    let l = c.loop-turn in
    ap length l.invariant.0.filled ∙ length-sets c.args.stems.now c.args.at l.invariant.0.gave

roomy : (c : Joined-kind) → c.loop-turn.place + 2 ≤ length c.loop-turn.stems
roomy c =
    let a = c.args in
    let l = c.loop-turn in
    has-room a.kinds.now a.addresses.now a.first a.n a.turns a.from a.to a.ram.now (lent_list a.core a.version a.ram.now a.queues.now a.values.now) a.stems.now a.at (length a.values.now) l.core l.version l.queues l.values l.stems l.place l.i l.turn l.stop l.invariant.0 c.if-turn-stop.true l.invariant.4

pub put_sides-requires : goal.put_sides-requires
put_sides-requires c =
    let j = (goal.at.put_sides-requires c).Joined-kind in
    let h = roomy j in
    record { fact_1 = omega (arith, h); fact_2 = stem-fits _ (came j).room }

pub overflow_add-place : goal.overflow_add-place
overflow_add-place c =
    let j = (goal.at.overflow_add-place c).Joined-kind in
    let h = roomy j in
    record { fits = omega (arith, h, long j, c.loop-turn.invariant.6) }

pub loop-turn-preserved-then-turn-stop : goal.loop-turn-preserved-then-turn-stop
loop-turn-preserved-then-turn-stop c =
    let a = c.args in
    let l = c.loop-turn in
    let j = (goal.at.loop-turn-preserved-then-turn-stop c).Joined-kind in (
      turn-made a.kinds.now a.addresses.now a.first a.n a.turns a.from a.to a.ram.now (lent_list a.core a.version a.ram.now a.queues.now a.values.now) a.stems.now a.at (length a.values.now) l.core l.version l.queues l.values l.stems l.place l.i l.turn l.stop l.invariant.0 c.if-turn-stop.true c.channel-ch.result c.channel-ch.ensures.0 c.match-kind.core c.match-kind.sides (came j) _ c.match-kind.queues c.put_sides.ensures (kept j),
      l.invariant.1,
      l.invariant.2,
      l.invariant.3,
      l.invariant.4,
      l.invariant.5,
      l.invariant.6,
    )

-- the call, whichever way it came
called : (c : Joined-from)
    → Begins c.args.kinds.now c.args.addresses.now c.args.first c.args.n c.loop-turn.i (standing c.args.ram.now c.loop-turn.core c.loop-turn.version c.loop-turn.queues c.loop-turn.values c.loop-turn.invariant.0.gave)
    (standing c.args.ram.now c.match-from.core c.match-from.version c.match-from.queues c.match-from.values c.loop-turn.invariant.0.gave) c.match-from.stop
called c =
    let a = c.args in
    let l = c.loop-turn in
    let g = l.invariant.0 in
    let address = get_or a.addresses.now l.i 0 in
    let value = get_or l.values l.i 0 in
    let ask = sym c.from.ensures in
    let now = standing a.ram.now l.core l.version l.queues l.values g.gave in
    elim c.match-from.branch [
      | in-WritePcmRam w ↦ begins-by a.kinds.now a.addresses.now a.first a.n l.i now (λ j. standing a.ram.now (w.core-is j) (w.version-is j) (w.queues-is j) (w.values-is j) g.gave) w.stop-is (store-none a.kinds.now a.addresses.now a.first a.n l.i now g.ready (ask ∙ w.in-WritePcmRam.is) (c.requires.fact_5 l.i (omega (arith, g.begun)) (omega (arith, c.if-to-i.false))))
      | in-WriteRegister+then-address-lt2048 w ↦ begins-by a.kinds.now a.addresses.now a.first a.n l.i now (λ j. standing a.ram.now (w.core-is j) (w.version-is j) (w.queues-is j) (w.values-is j) g.gave) w.stop-is (write-begins a.kinds.now a.addresses.now a.first a.n l.i now g.ready (ask ∙ w.in-WriteRegister.is) _ _ (wrote-wavetable l.version l.core l.queues address value _ _ w.if-address-lt2048.true refl refl) (search rules))
      | in-WriteRegister+else-address-lt2048+then-address-lt2304+then-empties w ↦ begins-by a.kinds.now a.addresses.now a.first a.n l.i now (λ j. standing a.ram.now (w.core-is j) (w.version-is j) (w.queues-is j) (w.values-is j) g.gave) w.stop-is (write-begins a.kinds.now a.addresses.now a.first a.n l.i now g.ready (ask ∙ w.in-WriteRegister.is) _ _ (wrote-block l.version l.core l.queues address value _ _ w.channel_of-ch.result w.offset_of-offset.result w.write_at-d.result w.empties.result w.write_at-d.new.queue g.entries w.if-address-lt2048.false w.if-address-lt2304.true w.channel_of-ch.ensures.1 w.channel_of-ch.ensures.0 w.offset_of-offset.ensures w.write_at-d.ensures.0 w.empties.ensures w.write_at-d.ensures.1 (stored-emptied l.core w.channel_of-ch.result w.write_at-d.result w.empties.result w.clear_fragments.new.samples w.if-empties.true w.clear_fragments.ensures) refl) (search rules))
      | in-WriteRegister+else-address-lt2048+then-address-lt2304+else-empties w ↦ begins-by a.kinds.now a.addresses.now a.first a.n l.i now (λ j. standing a.ram.now (w.core-is j) (w.version-is j) (w.queues-is j) (w.values-is j) g.gave) w.stop-is (write-begins a.kinds.now a.addresses.now a.first a.n l.i now g.ready (ask ∙ w.in-WriteRegister.is) _ _ (wrote-block l.version l.core l.queues address value _ _ w.channel_of-ch.result w.offset_of-offset.result w.write_at-d.result w.empties.result w.write_at-d.new.queue g.entries w.if-address-lt2048.false w.if-address-lt2304.true w.channel_of-ch.ensures.1 w.channel_of-ch.ensures.0 w.offset_of-offset.ensures w.write_at-d.ensures.0 w.empties.ensures w.write_at-d.ensures.1 (stored-kept l.core w.channel_of-ch.result w.write_at-d.result w.empties.result w.if-empties.false) refl) (search rules))
      | in-WriteRegister+else-address-lt2048+else-address-lt2304 w ↦ begins-by a.kinds.now a.addresses.now a.first a.n l.i now (λ j. standing a.ram.now (w.core-is j) (w.version-is j) (w.queues-is j) (w.values-is j) g.gave) w.stop-is (write-begins a.kinds.now a.addresses.now a.first a.n l.i now g.ready (ask ∙ w.in-WriteRegister.is) _ _ (wrote-above l.version l.core l.queues address value _ _ w.if-address-lt2048.false w.if-address-lt2304.false refl refl) (search rules))
      | in-Read+then-read_empties w ↦ begins-by a.kinds.now a.addresses.now a.first a.n l.i now (λ j. standing a.ram.now (w.core-is j) (w.version-is j) (w.queues-is j) (w.values-is j) g.gave) w.stop-is (read-begins a.kinds.now a.addresses.now a.first a.n l.i now g.ready (ask ∙ w.in-Read.is) _ _ (read-emptied l.core address w.channel_of-ch-in-Read.result w.channel_of-ch-in-Read.ensures.0 w.read_empties.result w.after_read.result _ w.read_empties.ensures w.if-read_empties.true w.after_read.ensures (stored-emptied l.core w.channel_of-ch-in-Read.result w.after_read.result true w.clear_fragments-then-read_empties.new.samples refl w.clear_fragments-then-read_empties.ensures)) (look-byte l.core address w.channel_of-ch-in-Read.result w.channel_of-ch-in-Read.ensures.0 l.version w.seen.result w.seen.ensures))
      | in-Read+else-read_empties w ↦ begins-by a.kinds.now a.addresses.now a.first a.n l.i now (λ j. standing a.ram.now (w.core-is j) (w.version-is j) (w.queues-is j) (w.values-is j) g.gave) w.stop-is (read-begins a.kinds.now a.addresses.now a.first a.n l.i now g.ready (ask ∙ w.in-Read.is) _ _ (read-kept l.core address w.channel_of-ch-in-Read.result w.channel_of-ch-in-Read.ensures.0 w.read_empties.result w.read_empties.ensures w.if-read_empties.false) (look-byte l.core address w.channel_of-ch-in-Read.result w.channel_of-ch-in-Read.ensures.0 l.version w.seen.result w.seen.ensures))
      | in-Peek w ↦ begins-by a.kinds.now a.addresses.now a.first a.n l.i now (λ j. standing a.ram.now (w.core-is j) (w.version-is j) (w.queues-is j) (w.values-is j) g.gave) w.stop-is (peek-begins a.kinds.now a.addresses.now a.first a.n l.i now g.ready (ask ∙ w.in-Peek.is) _ (look-byte l.core address w.channel_of.result w.channel_of.ensures.0 l.version w.seen-in-Peek.result w.seen-in-Peek.ensures))
      | in-Clock w ↦ begins-by a.kinds.now a.addresses.now a.first a.n l.i now (λ j. standing a.ram.now (w.core-is j) (w.version-is j) (w.queues-is j) (w.values-is j) g.gave) w.stop-is (clock-begins a.kinds.now a.addresses.now a.first a.n l.i now g.ready (ask ∙ w.in-Clock.is))
      | in-SetVersion w ↦ begins-by a.kinds.now a.addresses.now a.first a.n l.i now (λ j. standing a.ram.now (w.core-is j) (w.version-is j) (w.queues-is j) (w.values-is j) g.gave) w.stop-is (version-begins a.kinds.now a.addresses.now a.first a.n l.i now g.ready (ask ∙ w.in-SetVersion.is) _ _ w.from-version.ensures w.set_version-core.ensures)
      | in-Nothing w ↦ begins-by a.kinds.now a.addresses.now a.first a.n l.i now (λ j. standing a.ram.now (w.core-is j) (w.version-is j) (w.queues-is j) (w.values-is j) g.gave) w.stop-is (nothing-begins a.kinds.now a.addresses.now a.first a.n l.i now g.ready (ask ∙ w.in-Nothing.is))
    ]

pub loop-turn-smaller : goal.loop-turn-smaller
loop-turn-smaller c =
    let a = c.args in
    let l = c.loop-turn in
    let j = (goal.at.loop-turn-smaller c).Joined-from in
    let z = less-left a.kinds.now a.addresses.now a.from a.to l.i (omega (arith, l.invariant.0.begun)) (omega (arith, c.if-to-i.false)) c.match-from.stop (called j).count in
    omega (arith, z)

pub loop-turn-preserved : goal.loop-turn-preserved
loop-turn-preserved c =
    let a = c.args in
    let l = c.loop-turn in
    let g = l.invariant.0 in
    let e = called (goal.at.loop-turn-preserved c).Joined-from in
    let m = clocked-most a.kinds.now a.addresses.now a.from a.to l.i (omega (arith, g.begun)) (omega (arith, c.if-to-i.false)) in (
      call-begun a.kinds.now a.addresses.now a.first a.n a.turns a.from a.to a.ram.now (lent_list a.core a.version a.ram.now a.queues.now a.values.now) a.stems.now a.at (length a.values.now) l.core l.version l.queues l.values l.stems l.place l.i l.turn l.stop g c.if-turn-stop.false (omega (arith, c.if-to-i.false)) (standing a.ram.now c.match-from.core c.match-from.version c.match-from.queues c.match-from.values g.gave) c.match-from.stop e.ram e.stems e.ready (e.entries ∙ g.entries) (e.long ∙ g.long) e.made e.count,
      l.invariant.1,
      l.invariant.2,
      l.invariant.3,
      l.invariant.4,
      omega (arith, e.count, m, (c.type_inv.addresses l.i).fits),
      l.invariant.6,
    )

pub returns-then-to-i : goal.returns-then-to-i
returns-then-to-i c =
    let a = c.args in
    let l = c.loop-turn in
    let g = l.invariant.0 in
    let stop = c.if-turn-stop.false in
    let last = c.if-to-i.true in
    let o = over a.kinds.now a.addresses.now a.first a.n a.turns a.from a.to a.ram.now (lent_list a.core a.version a.ram.now a.queues.now a.values.now) a.stems.now a.at (length a.values.now) l.core l.version l.queues l.values l.stems l.place l.i l.turn l.stop g stop last in
    let p = placed a.kinds.now a.addresses.now a.first a.n a.turns a.from a.to a.ram.now (lent_list a.core a.version a.ram.now a.queues.now a.values.now) a.stems.now a.at (length a.values.now) l.core l.version l.queues l.values l.stems l.place l.i l.turn l.stop g stop last in
    record {
      result = λ j. after_calls (o j) (p j);
      left = record {
        ram_is = ap (λ (s : Listed). s.ram) o;
        queues_is = ap (λ (s : Listed). s.queues) o;
        values_is = ap (λ (s : Listed). s.values) o;
        stems_is = g.filled ∙ ap (λ (s : Listed). sets a.stems.now a.at s.stems) o;
      };
      accepted_core = g.ready.accepted;
      each_accepted = each-before a.kinds.now a.addresses.now a.first a.n a.turns a.from a.to a.ram.now (lent_list a.core a.version a.ram.now a.queues.now a.values.now) a.stems.now a.at (length a.values.now) l.core l.version l.queues l.values l.stems l.place l.i l.turn l.stop g stop last;
      queues_len_unchanged = (g.entries ∙ sym c.requires.fact_2, g.long);
    }
