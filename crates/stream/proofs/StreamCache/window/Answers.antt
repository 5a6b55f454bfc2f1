use Rattle.stream.specs.Window.{window_of}
use Rattle.stream.proofs.StreamCache.window.Goals as goal

pub returns : goal.returns
unfolding window_of
returns c = rw (c.reach.ensures, c.frame_of-frame.ensures, c.frame_samples-per.ensures.result)
