pub mod Schema
pub mod OfPersonEmploymentWhich
pub mod OfPersonPhoneNumberType
