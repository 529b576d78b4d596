-- The low bytes of the number, copied over those that stood there.
use Prim.Native.Nat.{◌+◌, ◌-◌}
use mathlib.Core.Path.{◌≡◌, ap, ◌∙◌}
use native.Mathlib.Omega.{arith}
use lib.ListN.{take}
use Rattle.records.specs.Records.{little_endian}
use Rattle.records.proofs.Numbers.{low_first, take_bytes, length_bytes}
use Rattle.records.proofs.Storing.{put_stores}
use Rattle.records.proofs.put.Goals as goal

pub returns : goal.returns
returns g c =
    let size : c.args.at + g.row.N - c.args.at ≡ g.row.N = omega arith in
    let low : c.copy_from_slice.new.self ≡ little_endian g.row.N c.args.x =
    c.copy_from_slice.ensures.after ∙ ap (take g.row.N) (c.to_le_bytes-raw.ensures ∙ low_first c.args.x) ∙ take_bytes g.row.N 8 c.args.x c.requires.size
    in
    rw (size, low) (put_stores c.args.bytes.now (little_endian g.row.N c.args.x) c.args.at g.row.N (length_bytes g.row.N c.args.x) c.requires.inside)
