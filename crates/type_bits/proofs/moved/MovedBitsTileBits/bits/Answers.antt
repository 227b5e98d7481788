use Rattle.std.proofs.Common.{ap, subst, ◌∙◌}
use Rattle.std.specs.Prelude.{option_map}
use Rattle.record_laws.specs.KeptBits.{bits_at}
use Rattle.tile_types.specs.Types.{AreTypesOf}
use Rattle.device_numbers.specs.Numbered.{Numbered}
use Rattle.type_bits.specs.TypeBits.{kept_at}
use Rattle.type_bits.proofs.OfTypes.{bits_are}
use Rattle.type_bits.proofs.moved.MovedBitsTileBits.bits.Goals as goal

pub returns : goal.returns
returns c =
    let k = c.self.inside in
    let types = c.types.result.now in
    let are = subst (λ (n : Numbered). AreTypesOf n.device types) c.numbers-numbers.ensures c.types.ensures in
    let kept = c.bits_of_tile.ensures ∙ ap (λ bits. kept_at bits types c.args.t c.args.place) c.as_slice.ensures.value in
    bits_are k.named.now.device c.args.place types k.types.items c.args.t (option_map (λ bits. bits.now) c.bits_of_tile.result) are c.self.invariant kept ∙ ap (λ (n : Numbered). bits_at n.device c.args.t c.args.place) c.self.view_is
