use lib.ListN.{get_or}
use Rattle.voices.specs.Core.{no_channel}
use Rattle.rest.specs.Rest.{is_fresh_channel}
use Rattle.rest.proofs.Tests.{eight}
use Rattle.rest.proofs.are_fresh.Goals as goal

pub returns : goal.returns
returns c =
    eight (λ ch. is_fresh_channel (get_or c.args.channels ch no_channel))
    c.is_fresh.ensures
    c.is_fresh-2.ensures
    c.is_fresh-3.ensures
    c.is_fresh-4.ensures
    c.is_fresh-5.ensures
    c.is_fresh-6.ensures
    c.is_fresh-7.ensures
    c.is_fresh-8.ensures
