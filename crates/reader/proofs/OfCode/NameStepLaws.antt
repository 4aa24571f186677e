-- What the code holds after a name: found among the names so far, new, or one too many.
use Rattle.std.specs.Prelude.{◌≡◌, refl, List, [], ◌∷◌, ◌++◌, ℕ, ◌+◌, ◌*◌, ◌-◌, ◌≤◌, ◌<◌, replicate, Result, Err}
use Rattle.std.proofs.Common.{sym, subst, ◌∙◌}
use Rattle.std.proofs.Math.Path.{ap, ap₂}
use native.Mathlib.Omega.{arith}
use Rattle.std.proofs.Math.ListN.{length, length-append}
use borrow.Author.Tests.{lt-ltb, le-ltb}
use Rattle.words.specs.declared.ground.Ground.{Ground}
use Rattle.words.specs.Limits.{names_most}
use Rattle.datum.specs.Datum.{name_d, datum_items}
use Rattle.datum.specs.NameTable.{slots}
use Rattle.datum.specs.NameTableLaws.{length-at}
use Rattle.reader.specs.declared.place.Place.{Place}
use Rattle.reading.specs.Meaning.{name}
use Rattle.reading.specs.Numbering.{number_of, with_name, datum_words}
use Rattle.reading.specs.Elements.{got, Reading, counted, named, takes}
use Rattle.reading.specs.Laws.Elements.{begin-got}
use Rattle.words.specs.Tables.{filled}
use Rattle.reading.specs.NumberingLaws.{number-most}
use Rattle.reader.specs.Code.Index.{bucket_of, Indexed, linked}
use Rattle.reader.proofs.OfCode.IndexLaws.{indexed-more}
use Rattle.reader.specs.Code.Stored.{names_in, stored}
use Rattle.reader.proofs.OfCode.StoredLaws.{names_in_lem, length-names-in, short-more, stored-filled, stored-length}
use Rattle.reader.specs.Code.Placed.{Holds, Stepped, begun_at, IndexedAfter, IsToken, with_token, TokenPut, NamesSound}
use Rattle.words.specs.TableLaws.{filled-same}
use Rattle.reader.specs.Code.StepLaws.{token-refused}

-- a name's one item
name-token : (n : ℕ) → IsToken (name_d n) 3 n 0
unfolding datum_items datum_words
name-token n = record { one = refl; words = λ i. refl }

-- what is found of a word in the table is at most the count of names
pub found-most : (word table : List ℕ) (known number : ℕ) → number ≡ number_of word (names_in table 0 known) → number ≤ known
found-most word table known number e = omega (arith, e, number-most word (names_in table 0 known), length-names-in table 0 known)

module _ (r : Reading) (p : Place) (words bytes : List ℕ) (h : Holds r p words bytes) where
  -- the table spells the names
  spelled : names_in bytes 0 p.known ≡ r.known
  unfolding filled
  spelled =
      ap₂ (λ t k. names_in t 0 k) h.names h.known
      ∙ names_in_lem r.known (replicate (length bytes - length (slots r.known)) 0) h.short

  pub holds-names : (index : List ℕ) → Indexed r.known index → NamesSound p bytes index
  unfolding filled
  holds-names index i = record {
    room = h.enough_names;
    short = λ n l. rw h.names (length-at r.known (replicate (length bytes - length (slots r.known)) 0) n h.short (omega (arith, h.known)));
    indexed = rw spelled i;
  }

  module _ (word : List ℕ) (number : ℕ) (e : number ≡ number_of word (names_in bytes 0 p.known))
      (index : List ℕ) (i : Indexed (names_in bytes 0 p.known) index) where
    number_is : number ≡ number_of word r.known
    number_is = e ∙ ap (number_of word) spelled

    indexed : Indexed r.known index
    indexed = rw spelled at i

    names-after : (q : Reading) → takes (name word) r ≡ got q → q.known ≡ with_name word r.known
    unfolding takes named counted
    names-after q t = ap (λ (x : Reading). x.known) (begin-got r (named word (counted r)) q t).same

    -- a name known before
    pub name-known : (words' : List ℕ) (s : Result Place Ground) → number < p.known → TokenPut p 3 number 0 p.known words words' s
        → Stepped (takes (name word) r) words' bytes s × IndexedAfter (name word) r index
    unfolding takes named counted with_token with_name
    name-known words' s l t =
        let k : number_of word r.known < length r.known = omega (arith, number_is, h.known) in
        let u = t r (name_d number) r.known bytes bytes h (name-token number) h.known h.short h.names h.enough_names in
        (rw (lt-ltb _ _ k, ← number_is) u, λ q t'. rw (names-after q t', lt-ltb _ _ k) indexed)

    module _ (l : p.known ≤ number) (w : length word ≤ 63) where
      new : length r.known ≤ number_of word r.known
      new = omega (arith, number_is, h.known)

      number-next : number ≡ length r.known
      number-next = omega (arith, number_is, h.known, number-most word r.known)

      -- a new one, entered
      pub name_new : (words' : List ℕ) (s : Result Place Ground) → number < names_most → TokenPut p 3 number 0 (number + 1) words words' s
          → Stepped (takes (name word) r) words' (stored bytes number word) s × IndexedAfter (name word) r (linked index number (bucket_of word))
      unfolding takes named counted with_token with_name
      name_new words' s few t =
          let room : 64 * number + 64 ≤ length bytes = omega (arith, h.enough_names) in
          let table = stored bytes number word in
          let more = r.known ++ (word ∷ []) in
          let k : number + 1 ≡ length more = omega (arith, number-next, length-append r.known (word ∷ [])) in
          let same = stored-length r.known word bytes number number-next h.short w h.names room in
          let f : table ≡ filled (slots more) table =
          stored-filled r.known word bytes number number-next h.short w h.names room ∙ filled-same (slots more) bytes table (sym same) in
          let u = t r (name_d number) more bytes table h (name-token number) k (short-more r.known word bytes number number-next h.short w h.names room) f (omega (arith, same, h.enough_names)) in
          let x = indexed-more r.known word index indexed number number-next few new in
          (rw (le-ltb _ _ new, ← number_is) u, λ q t'. rw (names-after q t', le-ltb _ _ new) x)

      -- one that is refused, as where no number is left for it
      pub name-refused : (words' bytes' : List ℕ) (g : Ground) → begun_at p (number + 1) p.depth ≡ Err g
          → Stepped (takes (name word) r) words' bytes' (Err g) × IndexedAfter (name word) r index
      unfolding takes named counted with_token with_name
      name-refused words' bytes' g f =
          let more = r.known ++ (word ∷ []) in
          let k : number + 1 ≡ length more = omega (arith, number-next, length-append r.known (word ∷ [])) in
          let u = token-refused r p words bytes h (name_d number) 3 number 0 (name-token number) more (number + 1) k words' bytes' g f in
          let s : Stepped (takes (name word) r) words' bytes' (Err g) = rw (le-ltb _ _ new, ← number_is) u in
          (s, λ q t. absurd (subst (λ a. Stepped a words' bytes' (Err g)) t s))
