-- Numbers that programs compute, and errors as answers. Own rules.
pub use Rattle.tx_base.specs.Errors.{error_answer, negative}
pub use Rattle.tx_base.specs.Numbers.{below}
