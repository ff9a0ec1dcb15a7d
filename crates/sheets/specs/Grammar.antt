-- Which fields a sheet may have, and in which order. Assumes nothing.
use Rattle.std.specs.Prelude.{ℕ, zero, suc, ◌+◌, ◌*◌, ◌%◌, max, Bool, true, false, cond, ◌&&◌, List, [], ◌∷◌, ◌++◌, length, Some, None, Option, ◌==◌, nat_le, nat_lt, slice_index}
use Rattle.sheets.specs.Frames.{Raw, size}

abbrev pub byte : Raw → ℕ → ℕ
byte f i = slice_index f.content i

-- the interface: kind 1 to 3, inputs 1 to 8, outputs 0 to 8
abbrev pub interface_ok : List ℕ → Bool
interface_ok [] = false
interface_ok (k ∷ []) = false
interface_ok (k ∷ i ∷ []) = false
interface_ok (k ∷ i ∷ o ∷ []) = nat_le 1 k && nat_le k 3 && nat_le 1 i && nat_le i 8 && nat_le o 8
interface_ok (k ∷ i ∷ o ∷ x ∷ xs) = false

abbrev pub heads_of : Raw → Bool
heads_of f = f.tag == 1 && interface_ok f.content

-- the tags of a kind: 1 basic, 2 service, 3 composite
abbrev pub belongs_to : ℕ → ℕ → Bool
belongs_to kind tag =
    cond (kind == 1) (nat_le 2 tag && nat_le tag 4)
    (cond (kind == 2) (tag == 5)
    (cond (kind == 3) (nat_le 6 tag && nat_le tag 7) false))

-- the lengths of a tag's content, for a width of amounts and so many outputs
abbrev pub fits_of : ℕ → ℕ → ℕ → ℕ → Bool
fits_of width outputs tag len =
    cond (tag == 2) (nat_le len (16 * width) && len % width == 0)
    (cond (tag == 3) (nat_le len 8 && len % 2 == 0)
    (cond (tag == 4) (len == 3)
    (cond (tag == 5) (len == 1 + width + outputs)
    (cond (tag == 6) (len == 1)
    (cond (tag == 7) (len == 4) false)))))

-- how many fields of a tag there may be; tag 5 is counted for each input
abbrev pub most_of : ℕ → ℕ
most_of tag =
    cond (tag == 2) 1
    (cond (tag == 3) 32
    (cond (tag == 4) 64
    (cond (tag == 6) 16
    (cond (tag == 7) 64 0))))

-- how many of the fields have the tag
abbrev pub count : ℕ → List Raw → ℕ
count t [] = 0
count t (f ∷ fs) = cond (f.tag == t) 1 0 + count t fs

-- how many of the fields are entries of the event
abbrev pub entries : ℕ → List Raw → ℕ
entries e [] = 0
entries e (f ∷ fs) = cond (f.tag == 5 && byte f 0 == e) 1 0 + entries e fs

-- the highest tag so far
abbrev pub highest : List Raw → ℕ
highest [] = 1
highest (f ∷ fs) = max f.tag (highest fs)

abbrev pub some : ℕ → List Raw → Bool
some t fs = nat_le 1 (count t fs)

-- the required lower tags have come
abbrev pub lower : ℕ → List Raw → Bool
lower t fs =
    cond (t == 3) (some 2 fs)
    (cond (t == 4) (some 2 fs && some 3 fs)
    (cond (t == 7) (some 6 fs) true))

-- the first byte is one of these
abbrev pub first_is : List ℕ → (ℕ → Bool) → Bool
first_is [] p = false
first_is (b ∷ bs) p = p b

-- not too many of the tag have come, and of an entry not too many of its event
abbrev pub room : ℕ → List Raw → Raw → Bool
room inputs fs f =
    cond (f.tag == 5)
    (first_is f.content (λ e. cond (nat_lt e inputs) (nat_lt (entries e fs) 16) true))
    (nat_lt (count f.tag fs) (most_of f.tag))

-- a field may follow the interface and the fields after it
abbrev pub follows : ℕ → Raw → List Raw → Raw → Bool
follows width head fs f =
    belongs_to (byte head 0) f.tag && fits_of width (byte head 2) f.tag (length f.content)
    && nat_le (highest fs) f.tag && lower f.tag fs && room (byte head 1) fs f

-- each event below n has an entry
abbrev pub each_event : ℕ → List Raw → Bool
each_event zero fs = true
each_event (suc n) fs = nat_le 1 (entries n fs) && each_event n fs

-- nothing more is needed
abbrev pub complete : Raw → List Raw → Bool
complete head fs =
    cond (byte head 0 == 1) (some 2 fs && some 3 fs)
    (cond (byte head 0 == 2) (each_event (byte head 1) fs)
    (some 6 fs))

-- The offset of the first of these fields that cannot follow, or theirs end where more is needed; none if all is well.
abbrev pub walk : ℕ → Raw → List Raw → ℕ → List Raw → Option ℕ
walk width head before at [] = cond (complete head before) None (Some at)
walk width head before at (f ∷ fs) = cond (follows width head before f) (walk width head (before ++ f ∷ []) (at + size f) fs) (Some at)

abbrev pub fault : ℕ → List Raw → Option ℕ
fault width [] = Some 0
fault width (head ∷ fs) = cond (heads_of head) (walk width head [] (size head) fs) (Some 0)
