-- When two variants of unions are the same.
use Rattle.std.specs.Prelude.{Bool, ◌&&◌, ◌==◌}
use Rattle.vx_value.specs.Codes.{same_code, bytes_code}
use Rattle.vx_value.specs.Types.{same_type}
use Rattle.vx_value.specs.View.{type_of}
use Rattle.vx_value.specs.declared.nested.UnionVariant.{UnionVariant}

-- of one tag, one name and one type
abbrev pub same_variant : UnionVariant → UnionVariant → Bool
same_variant v w = (v.tag == w.tag) && (same_code (bytes_code v.name) (bytes_code w.name) && same_type (type_of v.dtype) (type_of w.dtype))
