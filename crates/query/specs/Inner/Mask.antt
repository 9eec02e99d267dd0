-- Sets of query vertices as the code has them: numbers whose bits are the vertices. Assumes nothing.
use Rattle.std.specs.Prelude.{◌≡◌, ◌&&◌, ◌||◌, ℕ, ◌/◌, ◌%◌, ◌^◌, eqb, ltb}
use Rattle.query.specs.Query.{Query, VertexSet, touches}

-- The set of a mask: w is in it where the bit of 2 ^ w is 1.
unfoldable pub in_mask : ℕ → VertexSet
in_mask m w = eqb (m / 2 ^ w % 2) 1

-- m is the mask of S.
abbrev pub MaskOf : ℕ → VertexSet → Type 0
MaskOf m S = (w : ℕ) → in_mask m w ≡ S w

-- The set of one vertex.
abbrev pub only : ℕ → VertexSet
only v w = eqb w v

-- The vertices that a query edge joins to v, in either direction.
abbrev pub neighbours : Query → ℕ → VertexSet
neighbours q v w = touches q v (only w)

-- S with the vertices below n that a query edge joins to it.
abbrev pub with_neighbours : Query → VertexSet → ℕ → VertexSet
with_neighbours q S n w = S w || ltb w n && touches q w S
