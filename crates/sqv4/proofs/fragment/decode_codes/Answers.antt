use native.Mathlib.Nat.{sub-zero}
use lib.ListN.{set}
use mir.Syntax.{w16}
use mir.Val.{SFits}
use Rattle.adpcm.specs.Codes.{bits_of, decode_code, code_at}
use Rattle.adpcm.proofs.Ima.{read_is}
use Rattle.sqv4.specs.Decoding.{sound_of}
use borrow.Author.Rules.{sfits_of}
use native.Mathlib.Omega.{arith}
use mathlib.Core.Path.{◌≡◌, refl, sym, ◌∙◌}
use native.Mathlib.Nat.{mul-le-mul}
use Prim.Native.Nat.{ℕ, ◌*◌, ◌^◌, ◌<◌, ◌≤◌}
use lib.ListN.{length-set}
use mir.Facts.{to_z-of_z}
use Rattle.sqv4.proofs.Runs.{turn, turn_last, done, done-last, width, code-at}
use Rattle.sqv4.proofs.fragment.decode_codes.Goals as goal

few : (bits i n : ℕ) → i < n → n < 2 ^ 62 → bits ≤ 4 → i * bits < 2 ^ 64
few bits i n h l b = omega (arith, mul-le-mul {n₁ = i} {m₁ = bits} {n₂ = i} {m₂ = 4} (omega arith) b)

pub overflow_mul-i : goal.overflow_mul-i
overflow_mul-i c = record { fits = few c.bits-bits.result c.loop-i.i c.args.places.count c.loop-i-test.true c.requires.0 (width c.args.variant _ c.bits-bits.ensures) }

pub loop-i-preserved : goal.loop-i-preserved
loop-i-preserved c =
    let t = c.before.before.before.before.before.before.before.before in
    let a = c.args in
    let l = c.loop-i in
    let dc = c.decode_at-state in
    let so = c.sound in
    let bits = c.bits-bits.ensures in
    let code = code-at a.variant _ bits a.payload.now l.i _ (few c.bits-bits.result l.i a.places.count c.loop-i-test.true c.requires.0 (width a.variant _ bits)) refl in
    let near : SFits w16 dc.result.predictor = record { sfits = c.struct_told-1.given.0.1 } in
    let ed : dc.result ≡ decode_code a.version a.variant l.state (code_at a.payload.now l.i (bits_of a.variant)) =
    rw (c.unpack_bits.ensures ∙ code, c.min-index.ensures, c.step_sizes-steps.ensures) at dc.ensures
    ∙ read_is a.version a.variant l.state (code_at a.payload.now l.i (bits_of a.variant)) in
    let es : so.result ≡ sound_of a.version dc.result.predictor a.volume = rw (to_z-of_z near) at so.ensures in
    let ep : c.put.new.out ≡ set l.out l.at so.result = rw (to_z-of_z (sfits_of so.type_inv)) at c.put.ensures in
    let h = c.loop-i-test.true in (
      omega (arith, c.requires.1),
      rw ep (simp length-set l.invariant.1),
      rw (ep, ed) (turn a.version a.variant a.volume a.payload.now l.out l.at a.places.step l.state l.i a.places.count so.result h (rw ed at es) ∙ l.invariant.2),
      rw ed (turn_last a.version a.variant a.volume a.payload.now l.state l.i a.places.count h ∙ l.invariant.3),
    )

pub returns-clause-out : goal.returns-clause-out
returns-clause-out c =
    let a = c.args in
    let l = c.loop-i in
    let v = a.version in
    let k = a.variant in
    let p = a.payload.now in
    let n = a.places.count in (sym (done v k a.volume p l.out l.at a.places.step l.state l.i n c.loop-i-test.false) ∙ l.invariant.2 ∙ rw sub-zero)

pub returns-clause-result : goal.returns-clause-result
returns-clause-result c =
    let a = c.args in
    let l = c.loop-i in
    let v = a.version in
    let k = a.variant in
    let p = a.payload.now in
    let n = a.places.count in (sym (done-last v k a.volume p l.state l.i n c.loop-i-test.false) ∙ l.invariant.3 ∙ rw sub-zero)
