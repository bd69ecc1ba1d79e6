mod AddressBytes
mod Fields
