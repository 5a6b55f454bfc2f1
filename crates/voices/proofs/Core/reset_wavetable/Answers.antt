use Rattle.std.proofs.Common.{◌≡◌, ◌∙◌, ℕ, ◌+◌, ◌-◌, ◌*◌, ◌<◌, ◌≤◌, List, ap, arith, rules, length, length-take, length-drop, take, drop, replicate}
use Rattle.std.proofs.lemmas.List.Edits.{sets}
use borrow.Rule.Slice.PartMut.{put_mid}
use lib.ListN.{length-replicate}
use Rattle.sizes.specs.Sizes.{num_channels}
use Rattle.voices.specs.Core.{no_wavetable, set_wavetables}
use Rattle.voices.proofs.Parts.{put-part}
use Rattle.voices.proofs.Core.reset_wavetable.Goals as goal

filled : (l ys : List ℕ) (ch : ℕ) → ch < num_channels → length l ≡ 2048 → ys ≡ replicate (length (take (ch * 256 + 256 - ch * 256) (drop (ch * 256) l))) 128
    → put_mid (ch * 256) (ch * 256 + 256 - ch * 256) l ys ≡ no_wavetable ch l
unfolding no_wavetable
filled l ys ch h n e =
    let r : ch * 256 + 256 ≤ length l = omega arith in
    let m : length (take (ch * 256 + 256 - ch * 256) (drop (ch * 256) l)) ≡ 256 = simp (length-take, length-drop) (omega arith) in
    let z = e ∙ ap (λ (k : ℕ). replicate k 128) m in
    put-part l ys (ch * 256) 256 r (ap length z ∙ length-replicate {A = ℕ} 256 128) ∙ ap (sets l (ch * 256)) z

pub returns : goal.returns
returns c =
    let a = c.args in
    let w = a.self.wavetables in
    let long : length w ≡ 2048 = c.well_formed.0.1.1.1.1.0.1.0.1 in
    let f : c.fill.new.self ≡ replicate (length (take (a.ch * 256 + 256 - a.ch * 256) (drop (a.ch * 256) w))) 128 = search rules in
    ap (set_wavetables a.self) (filled w c.fill.new.self a.ch c.requires long f)
