-- The test of P3pInput::new (pose/p3p/common.rs), question 1 of document 01: are all eighteen
-- numbers finite?
use Rattle.std.specs.Prelude.{Bool, ◌&&◌}
use Rattle.linalg.specs.Vectors.{all_finite}
use Rattle.p3p_common.specs.Types.{P3pInput}

-- world_vectors.iter().chain(&bearing_vectors)
--     .any(|vector| vector.iter().any(|value| !value.is_finite())), the other way round
unfoldable pub input_finite : P3pInput → Bool
input_finite input =
    let world = input.world in
    let bearings = input.bearings in
    all_finite world.p0 && all_finite world.p1 && all_finite world.p2
    && all_finite bearings.f0 && all_finite bearings.f1 && all_finite bearings.f2
