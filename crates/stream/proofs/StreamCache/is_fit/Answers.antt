use Rattle.std.proofs.Common.{sym, ◌∙◌, arith, le-leb}
use borrow.Author.Tests.{lt-leb}
use Rattle.stream.specs.Accepted.{file_fits}
use Rattle.stream.proofs.Fragments.{samples-range, size-range}
use Rattle.stream.proofs.Accepts.{sizes-true}
use Rattle.stream.proofs.StreamCache.is_fit.Goals as goal

pub returns-then-not-sizes_fit : goal.returns-then-not-sizes_fit
unfolding file_fits
returns-then-not-sizes_fit c = rw (sym c.sizes_fit.ensures ∙ c.if-not-sizes_fit.true)

pub frames_of-frames-requires : goal.frames_of-frames-requires
frames_of-frames-requires c =
    let s = sizes-true _ _ (sym c.sizes_fit.ensures ∙ c.if-not-sizes_fit.false) in omega (arith, samples-range c.args.self.info.version, s.per)

pub is_length_fit-requires : goal.is_length_fit-requires
is_length_fit-requires c =
    let s = sizes-true _ _ (sym c.sizes_fit.ensures ∙ c.if-not-sizes_fit.false) in omega (arith, size-range c.args.self.info.version c.args.variant, s.size)

pub returns-then-not-is_length_fit : goal.returns-then-not-is_length_fit
unfolding file_fits
returns-then-not-is_length_fit c = rw (← c.frames_of-frames.ensures, sym c.sizes_fit.ensures ∙ c.if-not-sizes_fit.false, sym c.is_length_fit.ensures ∙ c.if-not-is_length_fit.true)

pub is_loop_fit-requires : goal.is_loop_fit-requires
is_loop_fit-requires c =
    let s = sizes-true _ _ (sym c.sizes_fit.ensures ∙ c.if-not-sizes_fit.false) in omega (arith, samples-range c.args.self.info.version, s.per)

pub returns-then-not-is_loop_fit : goal.returns-then-not-is_loop_fit
unfolding file_fits
returns-then-not-is_loop_fit c = rw (← c.frames_of-frames.ensures, sym c.sizes_fit.ensures ∙ c.if-not-sizes_fit.false, sym c.is_length_fit.ensures ∙ c.if-not-is_length_fit.false, sym c.is_loop_fit.ensures ∙ c.if-not-is_loop_fit.true)

pub returns-then-decoder-gt88 : goal.returns-then-decoder-gt88
unfolding file_fits
returns-then-decoder-gt88 c = rw (← c.frames_of-frames.ensures, sym c.sizes_fit.ensures ∙ c.if-not-sizes_fit.false, sym c.is_length_fit.ensures ∙ c.if-not-is_length_fit.false, sym c.is_loop_fit.ensures ∙ c.if-not-is_loop_fit.false, lt-leb _ 88 c.if-decoder-gt88.true)

pub returns-then-not-is_half_fit : goal.returns-then-not-is_half_fit
unfolding file_fits
returns-then-not-is_half_fit c = rw (← c.frames_of-frames.ensures, sym c.sizes_fit.ensures ∙ c.if-not-sizes_fit.false, sym c.is_length_fit.ensures ∙ c.if-not-is_length_fit.false, sym c.is_loop_fit.ensures ∙ c.if-not-is_loop_fit.false, le-leb _ 88 c.if-decoder-gt88.false, sym c.is_half_fit.ensures ∙ c.if-not-is_half_fit.true)

pub returns-then-not-is_half_fit-2 : goal.returns-then-not-is_half_fit-2
unfolding file_fits
returns-then-not-is_half_fit-2 c = rw (← c.frames_of-frames.ensures, sym c.sizes_fit.ensures ∙ c.if-not-sizes_fit.false, sym c.is_length_fit.ensures ∙ c.if-not-is_length_fit.false, sym c.is_loop_fit.ensures ∙ c.if-not-is_loop_fit.false, le-leb _ 88 c.if-decoder-gt88.false, sym c.is_half_fit.ensures ∙ c.if-not-is_half_fit.false, sym c.is_half_fit-2.ensures ∙ c.if-not-is_half_fit-2.true)

pub returns : goal.returns
unfolding file_fits
returns c = rw (← c.frames_of-frames.ensures, sym c.sizes_fit.ensures ∙ c.if-not-sizes_fit.false, sym c.is_length_fit.ensures ∙ c.if-not-is_length_fit.false, sym c.is_loop_fit.ensures ∙ c.if-not-is_loop_fit.false, le-leb _ 88 c.if-decoder-gt88.false, sym c.is_half_fit.ensures ∙ c.if-not-is_half_fit.false, sym c.is_half_fit-2.ensures ∙ c.if-not-is_half_fit-2.false)
