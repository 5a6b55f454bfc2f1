use mathlib.Core.Path.{◌≡◌}
use lib.ListN.{drop}
use Rattle.sqv4.specs.Files.{prefix_of}
use Rattle.sqv4.specs.Decoding.{begins, samples_of, state_of}
use Rattle.sqv4.proofs.fragment.decode_part.Goals as goal

pub returns-clause-out : goal.returns-clause-out
unfolding samples_of state_of
returns-clause-out c =
    let e : c.tail-payload.result.now ≡ drop (prefix_of c.args.version) c.args.fragment.now = rw c.prefix_of.ensures.result at c.tail-payload.ensures in
    let b : c.begin-start.result ≡ begins c.args.version c.args.state c.args.fragment.now = rw c.byte_at.ensures at c.begin-start.ensures in
    let v = c.byte_at-volume.ensures in
    (rw (e, b, v) at c.decode_codes.ensures.out)

pub returns-clause-result : goal.returns-clause-result
unfolding samples_of state_of
returns-clause-result c =
    let e : c.tail-payload.result.now ≡ drop (prefix_of c.args.version) c.args.fragment.now = rw c.prefix_of.ensures.result at c.tail-payload.ensures in
    let b : c.begin-start.result ≡ begins c.args.version c.args.state c.args.fragment.now = rw c.byte_at.ensures at c.begin-start.ensures in
    let v = c.byte_at-volume.ensures in
    (rw (e, b) at c.decode_codes.ensures.result)
