-- Worked grids, by computation: one square, whose sides are all on the border, and four, which share four sides.
use Rattle.std.proofs.Common.{◌≡◌, [], ◌∷◌, refl, pos, map}
use Rattle.std.specs.List.{range_with_len}
use Rattle.gm_model.specs.declared.value.Value.TheVariants.{Vec3}
use Rattle.gm_grid.specs.GridMap.{neighbour, point}

one_along : map (neighbour 1 0 0 0) (range_with_len 0 8) ≡ 1 ∷ 0 ∷ 3 ∷ 2 ∷ 5 ∷ 4 ∷ 7 ∷ 6 ∷ []
one_along = refl

one_around : map (neighbour 1 1 0 0) (range_with_len 0 8) ≡ 7 ∷ 2 ∷ 1 ∷ 4 ∷ 3 ∷ 6 ∷ 5 ∷ 0 ∷ []
one_around = refl

one_free : map (neighbour 1 2 0 0) (range_with_len 0 8) ≡ 0 ∷ 1 ∷ 2 ∷ 3 ∷ 4 ∷ 5 ∷ 6 ∷ 7 ∷ []
one_free = refl

one_points : map (point 0 0) (range_with_len 0 8) ≡
    Vec3 (pos 0) (pos 0) (pos 0) ∷ Vec3 (pos 4) (pos 0) (pos 0) ∷ Vec3 (pos 4) (pos 0) (pos 0) ∷ Vec3 (pos 4) (pos 4) (pos 0)
    ∷ Vec3 (pos 4) (pos 4) (pos 0) ∷ Vec3 (pos 0) (pos 4) (pos 0) ∷ Vec3 (pos 0) (pos 4) (pos 0) ∷ Vec3 (pos 0) (pos 0) (pos 0) ∷ []
one_points = refl

-- of four squares the first meets the second at its darts 2 and 3, and the third at 4 and 5
first_across : map (neighbour 2 2 0 0) (range_with_len 0 8) ≡ 0 ∷ 1 ∷ 15 ∷ 14 ∷ 17 ∷ 16 ∷ 6 ∷ 7 ∷ []
first_across = refl

second_across : map (neighbour 2 2 0 1) (range_with_len 0 8) ≡ 8 ∷ 9 ∷ 10 ∷ 11 ∷ 25 ∷ 24 ∷ 3 ∷ 2 ∷ []
second_across = refl

third_across : map (neighbour 2 2 1 0) (range_with_len 0 8) ≡ 5 ∷ 4 ∷ 31 ∷ 30 ∷ 20 ∷ 21 ∷ 22 ∷ 23 ∷ []
third_across = refl

last_across : map (neighbour 2 2 1 1) (range_with_len 0 8) ≡ 13 ∷ 12 ∷ 26 ∷ 27 ∷ 28 ∷ 29 ∷ 19 ∷ 18 ∷ []
last_across = refl

-- columns go along x, rows along y
second_point : point 0 1 0 ≡ Vec3 (pos 4) (pos 0) (pos 0)
second_point = refl

third_point : point 1 0 0 ≡ Vec3 (pos 0) (pos 4) (pos 0)
third_point = refl
