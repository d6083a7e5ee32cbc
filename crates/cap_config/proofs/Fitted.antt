-- Capacities fit in a text with no fault.
use Rattle.cap_config.proofs.Prelude.{◌≡◌, ℕ, List, true, false, Option, Some, None, Ok, sym, ap, ◌∙◌, bytes_eq, lines, Entry, ConfigFault, OverParent, root, contains_bytes, is_name_under, names_below, child, guaranteed, maximum, over_parent_line, exceeds, exceeds_limit, guaranteed_below, whole_fault, shape_fault, or_else, or_fault, read_lines}
use Rattle.cap_config.proofs.FaultLines.{lines_kept}
use Rattle.cap_config.proofs.Found.{under_path, among_has}
use Rattle.cap_config.proofs.Children.{child_parts, name_no_dot}
use Rattle.cap_config.proofs.RowPaths.{shape_of, no_other}
use Rattle.cap_config.proofs.Fitting.{guarantee_fits, children_fit, maximum_fits, is_over}

second_none : (a b : Option ConfigFault) → or_fault a b ≡ None → b ≡ None
second_none None b h = h
second_none a b h = absurd (cc h)

parent_is_none : (entries : List Entry) → whole_fault entries ≡ None → over_parent_line entries ≡ None
unfolding whole_fault
parent_is_none entries h = (no_other (over_parent_line entries) OverParent None (second_none (shape_fault entries) (or_else (over_parent_line entries) OverParent None) h)).0

pub guarantee_in_text : (text : List ℕ) (entries : List Entry) → read_lines (lines text) ≡ Ok entries → whole_fault entries ≡ None → (path : List ℕ) →
    exceeds_limit (guaranteed entries path) (maximum entries path) ≡ false
guarantee_in_text text entries is none path = guarantee_fits entries (shape_of entries none).over path

pub maximum_in_text : (text : List ℕ) (entries : List Entry) → read_lines (lines text) ≡ Ok entries → whole_fault entries ≡ None →
    (path name most : List ℕ) → contains_bytes (names_below entries path) name ≡ true → maximum entries (child path name) ≡ Some most → exceeds_limit most (maximum entries path) ≡ false
maximum_in_text text entries is none path name most in_list own =
    let under = among_has (is_name_under path) (names_below entries path) name (under_path entries path (lines_kept (lines text) entries is)) in_list in
    let parts = child_parts path name (name_no_dot path name under) in
    ap (λ (m : Option (List ℕ)). is_over m (maximum entries path)) (sym own) ∙ maximum_fits entries (parent_is_none entries none) (child path name) path name parts

pub children_in_text : (text : List ℕ) (entries : List Entry) → read_lines (lines text) ≡ Ok entries → whole_fault entries ≡ None →
    (path : List ℕ) → bytes_eq path root ≡ false → exceeds (guaranteed_below entries path (names_below entries path)) (guaranteed entries path) ≡ false
children_in_text text entries is none path other = children_fit entries (parent_is_none entries none) path other
