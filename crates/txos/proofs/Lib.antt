pub mod CommandNamed
pub mod FormSaid
