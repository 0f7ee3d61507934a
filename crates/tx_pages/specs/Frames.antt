-- Bytes written over the bytes of a page.
use Rattle.std.specs.Prelude.{ℕ, ◌+◌, List, [], ◌∷◌, Option, Some, None, slice_set}
use Rattle.tx_model.specs.Memory.{Memory, PageView, page_at}

-- bytes with others written over them from an offset on, one after another
abbrev pub overlaid : List ℕ → ℕ → List ℕ → List ℕ
overlaid old offset [] = old
overlaid old offset (byte ∷ bytes) = overlaid (slice_set old offset byte) (offset + 1) bytes

-- a page with its bytes replaced
abbrev pub with_bytes : List ℕ → Option PageView → Option PageView
with_bytes bytes None = None
with_bytes bytes (Some page) = Some (record { writable = page.writable; bytes = bytes })

abbrev pub bytes_of : Option PageView → List ℕ
bytes_of None = []
bytes_of (Some page) = page.bytes

-- a page of memory with some of its bytes written over
abbrev pub written : Memory → ℕ → ℕ → List ℕ → Option PageView
written memory n offset bytes =
    with_bytes (overlaid (bytes_of (page_at memory n)) offset bytes) (page_at memory n)
