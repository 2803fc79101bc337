use Rattle.std.proofs.Common.{◌*◌, ◌^◌}
use Rattle.fnv.proofs.Modulo.{seven, prime_sum}
use Rattle.fnv.proofs.times_prime.Goals as goal

pub returns : goal.returns
returns c =
    let x = c.args.x in
    cc (seven (2 ^ 64) (x * 2 ^ 40) (x * 2 ^ 8) (x * 2 ^ 7) (x * 2 ^ 5) (x * 2 ^ 4) (x * 2 ^ 1) x, prime_sum x)
