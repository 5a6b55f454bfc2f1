use Rattle.std.proofs.Common.{◌≡◌, ◌+◌, ◌-◌, ◌*◌, ◌%◌, ◌≤◌, length, take, drop, sym, refl, ap, ◌∙◌, arith, length-drop, length-take, ne_eqb}
use lib.Seq.{sets}
use Rattle.stream.specs.Cache.{fragment_samples}
use Rattle.stream.proofs.Fragments.{per-range, part-set, alone-is, legacy-samples, legacy-state, length-fragment}
use Rattle.stream.proofs.cache.decode_into.Goals as goal

pub returns-then-info-eq3-clause-samples : goal.returns-then-info-eq3-clause-samples
returns-then-info-eq3-clause-samples c =
    let a = c.args in
    let n = c.count_at.result in
    let e = c.count_at.ensures in
    let at = 64 * (a.frame % 2) in
    let room : at + n ≤ length a.samples.now = omega (arith, c.requires.fact_2, per-range _ _ _ c.requires.fact_1) in
    let m : length (take (at + n - at) (drop at a.samples.now)) ≡ n = simp (length-take, length-drop) (omega arith) in
    let q = alone-is a.file.now a.variant a.info c.requires.fact_1 a.state a.frame c.requires.fact_3 c.if-info-eq3.true (16 + a.frame * a.info.frame_size) _ refl (m ∙ e) in
    (part-set a.samples.now c.decode_fragment.new.out (fragment_samples a.file.now a.variant a.info a.state a.frame) at n room (length-fragment a.file.now a.variant a.info a.state a.frame ∙ sym e) (c.decode_fragment.ensures ∙ ap (sets (take (at + n - at) (drop at a.samples.now)) 0) q))

pub returns-clause-samples : goal.returns-clause-samples
returns-clause-samples c =
    let a = c.args in
    let n = c.count_at.result in
    let e = c.count_at.ensures in
    let at = 64 * (a.frame % 2) in
    let room : at + n ≤ length a.samples.now = omega (arith, c.requires.fact_2, per-range _ _ _ c.requires.fact_1) in
    let m : length (take (at + n - at) (drop at a.samples.now)) ≡ n = simp (length-take, length-drop) (omega arith) in
    let no = c.if-info-eq3.false in
    let from = 16 + a.frame * a.info.frame_size in
    let q = legacy-samples a.file.now a.variant a.info c.requires.fact_1 a.state a.frame c.requires.fact_3 no from _ refl (m ∙ e) in (part-set a.samples.now c.decode_legacy_fragment.new.out (fragment_samples a.file.now a.variant a.info a.state a.frame) at n room (length-fragment a.file.now a.variant a.info a.state a.frame ∙ sym e) (c.decode_legacy_fragment.ensures.out ∙ ap (sets (take (at + n - at) (drop at a.samples.now)) 0) q))

pub returns-clause-result : goal.returns-clause-result
returns-clause-result c =
    let a = c.args in
    let n = c.count_at.result in
    let e = c.count_at.ensures in
    let at = 64 * (a.frame % 2) in
    let room : at + n ≤ length a.samples.now = omega (arith, c.requires.fact_2, per-range _ _ _ c.requires.fact_1) in
    let m : length (take (at + n - at) (drop at a.samples.now)) ≡ n = simp (length-take, length-drop) (omega arith) in
    let no = c.if-info-eq3.false in
    let from = 16 + a.frame * a.info.frame_size in
    let q = legacy-samples a.file.now a.variant a.info c.requires.fact_1 a.state a.frame c.requires.fact_3 no from _ refl (m ∙ e) in (rw (ne_eqb a.info.version 3 no) (c.decode_legacy_fragment.ensures.result ∙ legacy-state a.file.now a.variant a.info c.requires.fact_1 a.state a.frame c.requires.fact_3 no from _ refl (m ∙ e)))
