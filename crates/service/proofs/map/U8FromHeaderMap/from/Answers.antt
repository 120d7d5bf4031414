use Rattle.std.proofs.Common.{◌≡◌, refl}
use denote.Enum.Declared.{tag_of}
use Rattle.service.specs.Map.{number_of_kind}
use Rattle.service.specs.contracts.header.Kind.{the_type}
use Rattle.service.specs.declared.header.Kind.{Kind}
use Rattle.service.specs.declared.header.Kind.TheVariants.{Video, Audio, TimedData, Adaptation}
use Rattle.service.proofs.Maps.{packed_is}
use Rattle.service.proofs.map.U8FromHeaderMap.from.Goals as goal

cast_is : (k : Kind) → tag_of the_type k ≡ number_of_kind k
cast_is Video = refl
cast_is Audio = refl
cast_is TimedData = refl
cast_is Adaptation = refl

pub returns : goal.returns
returns c =
    rw (cast_is c.args.map.kind, c.from.ensures, c.from-2.ensures, c.from-3.ensures, c.from-4.ensures)
    (packed_is c.args.map)
