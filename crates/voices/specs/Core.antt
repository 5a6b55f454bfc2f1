-- Eight voices with the tables beside them: fresh ones, one taken out and put back, one reset, all under another version.
use Rattle.std.specs.Prelude.{Bool, true, false, cond, List, map, ℕ, ◌*◌, ltb, ℤ, pos, set, get_or, replicate}
use Rattle.std.proofs.lemmas.List.Edits.{sets}
use Rattle.sizes.specs.Sizes.{num_channels, wavetables_size}
use Rattle.registers.specs.Queue.{default_fifo}
use Rattle.registers.specs.declared.WaveformType.TheVariants.{Wavetable}
use Rattle.registers.specs.declared.ModulationType.TheVariants.{None}
use Rattle.version.specs.declared.SguVersion.{SguVersion}
use Rattle.stream.specs.Cache.{emptied}
use Rattle.voice.specs.Channel.{default_channel, set_channel_version}
use Rattle.voice.specs.declared.Channel.{Channel}
use Rattle.voices.specs.declared.Core.{Core}

abbrev pub fresh_core : Core
fresh_core = record { channels = replicate num_channels default_channel; fragments = replicate 1024 (pos 0); wavetables = replicate wavetables_size 128 }

-- what `get_or` gives past the end of a list of channels
abbrev pub no_channel : Channel
no_channel = record {
  oscillator = record { phase = 0; old_phase = 0; lfsr_state = 0; last_sample = pos 0; slew_current = 0 };
  fifo = default_fifo;
  stream = emptied;
  pcm = record { start_addr = 0; end_addr = 0; loop_addr = 0; control = 0; sample_control = 0; active = false };
  registers = record { frequency = 0; waveform_type = Wavetable; volume = 0; panpot = 0; modulation_type = None; modulation_target = 0; modulation_targeting_mode = 0; modulation_param_1 = 0; modulation_param_2 = 0 };
}

abbrev pub channel_at : Core → ℕ → Channel
channel_at k ch = get_or k.channels ch no_channel

-- ---- one part set, the others as they were

abbrev pub set_channels : Core → List Channel → Core
set_channels k l = record { channels = l; fragments = k.fragments; wavetables = k.wavetables }

abbrev pub set_fragments : Core → List ℤ → Core
set_fragments k l = record { channels = k.channels; fragments = l; wavetables = k.wavetables }

abbrev pub set_wavetables : Core → List ℕ → Core
set_wavetables k l = record { channels = k.channels; fragments = k.fragments; wavetables = l }

abbrev pub set_channel : Core → ℕ → Channel → Core
set_channel k ch c = set_channels k (set k.channels ch c)

-- ---- one voice

unfoldable pub no_fragments : ℕ → List ℤ → List ℤ
no_fragments ch l = sets l (ch * 128) (replicate 128 (pos 0))

unfoldable pub no_wavetable : ℕ → List ℕ → List ℕ
no_wavetable ch l = sets l (ch * 256) (replicate 256 128)

-- a channel stored; where its cache was emptied, its fragments are zeros
unfoldable pub stored_channel : Core → ℕ → Channel → Bool → Core
stored_channel k ch c invalidated = set_fragments (set_channel k ch c) (cond invalidated (no_fragments ch k.fragments) k.fragments)

unfoldable pub reset_channel_at : Core → ℕ → Core
reset_channel_at k ch = cond (ltb ch num_channels) (set_wavetables (stored_channel k ch default_channel true) (no_wavetable ch k.wavetables)) k

-- ---- every voice
unfoldable pub set_core_version : Core → SguVersion → Core
set_core_version k version =
    record { channels = map (λ (c : Channel). set_channel_version c version) k.channels; fragments = replicate 1024 (pos 0); wavetables = k.wavetables }
