use Rattle.std.proofs.Common.{◌≡◌, ℕ, List, length, get_or, set, replicate, pos, sym, ap, ◌∙◌, add-one, arith}
use Rattle.sizes.specs.Sizes.{num_channels}
use Rattle.voice.specs.Channel.{set_channel_version}
use Rattle.voice.specs.declared.Channel.{Channel}
use Rattle.voices.specs.Core.{no_channel, set_core_version}
use Rattle.voices.specs.declared.Core.{Core}
use Rattle.voices.proofs.Parts.{changed, changed-more, changed-all}
use Rattle.voices.proofs.Core.set_version.Goals as goal

pub loop-c-preserved : goal.loop-c-preserved
loop-c-preserved c =
    let l = c.loop-c in
    let a = c.args in
    let under : Channel → Channel = λ x. set_channel_version x a.version in
    ap (λ (x : Channel). set l.c-items l.c-index x) c.set_version.ensures
    ∙ ap (λ (xs : List Channel). set xs l.c-index (under (get_or xs l.c-index no_channel))) l.invariant
    ∙ changed-more under no_channel l.c-index a.self.channels
    ∙ ap (λ (n : ℕ). changed under n a.self.channels) (sym (add-one l.c-index))

pub returns : goal.returns
unfolding set_core_version
returns c =
    let l = c.loop-c in
    let a = c.args in
    let n : length a.self.channels ≡ num_channels = c.well_formed.0.1.1.0.1.0.1 in
    ap {B = Core} (λ (xs : List Channel). record { channels = xs; fragments = replicate 1024 (pos 0); wavetables = a.self.wavetables })
    (l.invariant ∙ changed-all (λ (x : Channel). set_channel_version x a.version) l.c-index a.self.channels (omega (arith, n, c.loop-c-test.false)))
