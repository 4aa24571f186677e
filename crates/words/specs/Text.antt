-- A quoted text as its bytes.
use Rattle.std.specs.Prelude.{List, [], ◌∷◌, ℕ}
use Prim.Native.Char as C
use Prim.Native.String as S

unfoldable pub bytes : S.String → List ℕ
bytes S.[] = []
bytes (S.◌∷◌ c s) = C.code c ∷ bytes s
